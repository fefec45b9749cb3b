-- A whole election under toy hashes, found sound by computing its audit: a spoiled ballot with its hidden track, a counted ballot, and the
-- extraction. So what is proved of sound boards is proved of boards that have all of that. Assumes nothing.
use Prim.Native.Nat.{ℕ, ◌+◌, ◌-◌, ◌*◌, ◌≤◌}
use native.Mathlib.Omega.{arith}
use mathlib.Core.Path.{◌≡◌, refl, ap, ◌∙◌}
use mathlib.Core.List.{List, [], ◌∷◌, ◌++◌}
use lib.ListN.{length, replicate, get_or}
use lib.Dec.{lit≤}
use lib.Count.{ones_in}
use Rattle.model.specs.Lists.{if◌then◌otherwise◌, ◌⇒◌, part, any, count, keep, latest}
use Rattle.model.specs.Words.{kind_of, code_of, count_of, same_words, pair, closing_word, low_zero, bit, in_words, size, every_below, all_in}
use Rattle.model.specs.Format.{Format, Hashes, Curve, secp256r1, format_on, key_size}
use Rattle.model.specs.Traits.{traits_known, format_of}
use Rattle.model.specs.Item.{Item, item_length, item_at, hashed, words_of}
use Rattle.model.specs.Types.{row_of, row_in, table, fits}
use Rattle.model.specs.History.{History, main, entry, first_from, last_from, main_item, end_after, end_address, parent_number, session_number, entry_of, closer, place_of, history}
use Rattle.model.specs.Counted.{Vote, vote_of, counted, contents, total_weight}
use Rattle.model.specs.Links.{address_ok, previous_ok, parent_ok, time_ok}
use Rattle.model.specs.Phase.{rounds, is_open, extraction_ok, open_ok, standing_ok, latest_ok, intent_ok, spoiled_ok, phase_ok}
use Rattle.model.specs.Only.{on_board_ok, under_parent_ok, under_ballot_ok, only_ok}
use Rattle.model.specs.Content.{contests_ok, may_vote, cryptograms_ok, genesis_ok, contest_ok, threshold_ok, authorizer_ok, round_ok, session_ok, commitment_ok, ballot_ok, fingerprint_ok, trustees_ok, content_ok}
use Rattle.model.specs.Roll.{electors, rising, is_bad_roll, on_roll, on_roll_ok}
use Rattle.model.specs.Keys.{opening, key_of, good_verdict, verdict_ok, key_ok, signature_ok}
use Rattle.model.specs.Audit.{Outcome, unread, refused, accepted, first_unmet, checks, fault_in, head_fault, closing, judged, word_at, reading, audit, index_need, ballot_need}
use Rattle.model.specs.Report.{filled, report_of, number_word, index_row_of, index_rows, ballot_rows}
use Rattle.model.specs.Sound.{Sound}
use Rattle.model.specs.Ancestry.{up_to, ancestry}
use Rattle.model.specs.Program.{digits, spaced, accepted_line, row_lines, text_of}
use Rattle.model.proofs.Acceptance.{accepted↔sound}
use Rattle.model.proofs.Unchecked.{length-history, accepted-history}

-- toy hashes: the last word, 384 times it and 512 times it, as often as a digest has words. Of an item's hashed words the last is the low word
-- of its time
abbrev last : List ℕ → ℕ
last ws = get_or ws (length ws - 1) 0

abbrev pub toys : Hashes
toys = record { sha256 = λ ws. replicate 8 (last ws); sha384 = λ ws. replicate 12 (384 * last ws); sha512 = λ ws. replicate 16 (512 * last ws) }

abbrev pub toy : Format
toy = format_on toys secp256r1 1

-- an item written on a curve: its head and content, and the digests of the times of its parent, of the item before it and of itself. Those of 0 are
-- zeros. A signature has no word that an address has
abbrev pub item_on : Curve → ℕ → List ℕ → ℕ → ℕ → ℕ → Item
item_on c head content parent previous time = record {
  head = head;
  content = content;
  parent = c.hash toys (parent ∷ []);
  previous = c.hash toys (previous ∷ []);
  stamp = 0 ∷ time ∷ [];
  signature = replicate c.signature 99;
  address = c.hash toys (time ∷ []);
}

abbrev pub item : ℕ → List ℕ → ℕ → ℕ → ℕ → Item
item = item_on secp256r1

-- eight times a number
abbrev pub key : ℕ → List ℕ
key = replicate key_size

-- an item that is signed under a key
pub record Signed : Type 0 where
  pub item : Item
  pub under : ℕ

infix 80 ◌by◌
abbrev pub ◌by◌ : Item → ℕ → Signed
i by k = record { item = i; under = k }

-- the keys of administrator, ballot box, authorizer, voter and verifier are 1 to 5. Item n has the time n. Given are the curve, the traits word or
-- none, the last words of the commitments and of the cryptogram that is cast, and the fingerprint of the counted ballots
abbrev pub election_on : Curve → List ℕ → ℕ → ℕ → List ℕ → List Signed
election_on c traits commitment_end cryptogram_end fingerprint =
    let write = item_on c in
    let commitment = replicate {A = ℕ} (c.commitment - 1) 0 ++ (commitment_end ∷ []) in
    let cryptogram = replicate {A = ℕ} (c.cryptogram - 1) 6 in
    write (0x10010011 + length traits) (7 ∷ key 1 ++ key 2 ++ traits) 0 0 1 by 1
    ∷ write 0x10030001 (0 ∷ []) 1 1 2 by 1
    ∷ write 0x1004000A (1 ∷ 1 ∷ key 0) 2 2 3 by 1
    ∷ write 0x10050009 (1 ∷ key 3) 3 3 4 by 1
    ∷ write 0x10060006 (0 ∷ 1 ∷ 0 ∷ 0 ∷ 0 ∷ 100 ∷ []) 4 4 5 by 1
    ∷ write 0x10100013 (9 ∷ 5 ∷ key 4 ++ key 0 ++ (1 ∷ [])) 5 5 6 by 3
    -- a ballot that is checked on a hidden track, and spoiled
    ∷ write (0x10110000 + c.commitment) commitment 6 6 7 by 4
    ∷ write (0x10120000 + c.commitment) commitment 7 7 8 by 2
    ∷ write (0x10130001 + c.cryptogram) (1 ∷ cryptogram ++ (0x70000 ∷ [])) 8 8 9 by 4
    ∷ write 0x20300000 [] 9 9 10 by 2
    ∷ write 0x20310008 (key 5) 10 10 11 by 5
    ∷ write 0x10150000 [] 9 9 12 by 4
    ∷ write 0x20320001 (0 ∷ []) 11 11 13 by 4
    ∷ write 0x20330001 (0 ∷ []) 13 13 14 by 2
    -- a ballot that is cast
    ∷ write (0x10110000 + c.commitment) commitment 6 12 15 by 4
    ∷ write (0x10120000 + c.commitment) commitment 15 15 16 by 2
    ∷ write (0x10130001 + c.cryptogram) (1 ∷ cryptogram ++ (cryptogram_end ∷ [])) 16 16 17 by 4
    ∷ write 0x10140000 [] 17 17 18 by 4
    -- extraction
    ∷ write 0x10200000 [] 5 18 19 by 1
    ∷ write 0x10210008 fingerprint 19 19 20 by 2
    ∷ write 0x10220011 (1 ∷ replicate 16 0) 20 20 21 by 1
    ∷ []

-- the fingerprint of the one counted ballot is its last word, eight times over
unfoldable pub election : List Signed
election = election_on secp256r1 [] 0 0x80000 (replicate 8 0x80000)

unfoldable pub words_in : List Signed → List ℕ
words_in [] = []
words_in (s ∷ ss) = words_of s.item ++ words_in ss

unfoldable pub verdicts_in : List Signed → List ℕ
verdicts_in [] = []
verdicts_in (s ∷ ss) = good_verdict (key s.under) ++ verdicts_in ss

-- a board of these items
abbrev pub board_of : List Signed → List ℕ
board_of ss = words_in ss ++ (closing_word (length ss) ∷ [])

abbrev pub board : List ℕ
board = board_of election

abbrev pub verdicts : List ℕ
verdicts = verdicts_in election

-- the voter of the session, and two who do not vote
abbrev pub roll : List ℕ
roll = 3 ∷ 2 ∷ 9 ∷ 5 ∷ 20 ∷ 0 ∷ []

-- the answer to a board in its own format
abbrev pub own_answer : List Signed → Outcome
own_answer ss = audit (format_of toys (board_of ss)) (board_of ss) (verdicts_in ss) roll index_need ballot_need

-- how many items an accepted board has
unfoldable pub items-in : Outcome → ℕ
items-in (unread n) = 0
items-in (refused n k) = 0
items-in (accepted h) = length h

all-accepted : items-in (audit toy board verdicts roll index_need ballot_need) ≡ 21
unfolding election words_in verdicts_in words_of hashed if◌then◌otherwise◌ ◌⇒◌ part any count keep latest ones_in kind_of code_of count_of same_words pair low_zero bit in_words size every_below all_in item_length item_at row_of row_in table fits entry first_from last_from main_item end_after end_address parent_number session_number entry_of place_of history vote_of counted contents address_ok previous_ok parent_ok time_ok rounds is_open extraction_ok open_ok standing_ok latest_ok intent_ok spoiled_ok phase_ok on_board_ok under_parent_ok under_ballot_ok only_ok contests_ok may_vote cryptograms_ok genesis_ok traits_known contest_ok threshold_ok authorizer_ok round_ok session_ok commitment_ok ballot_ok fingerprint_ok trustees_ok content_ok electors rising is_bad_roll on_roll on_roll_ok opening key_of verdict_ok key_ok signature_ok first_unmet checks fault_in head_fault closing judged word_at reading audit items-in
all-accepted = refl

-- so it is accepted, with its first items
pub accepted-by : (f : Format) (ws vs roll : List ℕ) (index ballots n : ℕ) (o : Outcome) → audit f ws vs roll index ballots ≡ o → items-in o ≡ n → 1 ≤ n
    → o ≡ accepted (history f ws n)
unfolding items-in
accepted-by f ws vs roll index ballots n (unread m) q e l = absurd (omega arith)
accepted-by f ws vs roll index ballots n (refused m k) q e l = absurd (omega arith)
accepted-by f ws vs roll index ballots n (accepted h) q e l = ap accepted (accepted-history f ws vs roll index ballots h q ∙ ap (history f ws) e)

pub is-accepted : audit toy board verdicts roll index_need ballot_need ≡ accepted (history toy board 21)
is-accepted = accepted-by toy board verdicts roll index_need ballot_need 21 _ refl all-accepted (lit≤ tt)

pub is-sound : Sound toy board verdicts roll (history toy board 21)
is-sound = ((accepted↔sound toy board verdicts roll index_need ballot_need (history toy board 21)).0 is-accepted).0

-- ---- what its history gives, computed once

abbrev past : History
past = history toy board 21

-- 17 of the items are main
mains : count main past ≡ 17
unfolding election words_in words_of hashed if◌then◌otherwise◌ part count kind_of count_of item_length item_at entry_of place_of history
mains = refl

end : end_address toy past ≡ replicate 8 21
unfolding election words_in words_of hashed if◌then◌otherwise◌ part keep kind_of count_of item_length item_at main_item end_after end_address entry_of place_of history
end = refl

-- one ballot of weight 5: main item 13, of voter 9
abbrev vote : Vote
vote = record { ballot = 13; voter = 9; weight = 5; content = 1 ∷ replicate 16 6 ++ (0x80000 ∷ []) }

pub votes : counted past ≡ vote ∷ []
unfolding election words_in words_of hashed if◌then◌otherwise◌ part any count keep latest kind_of code_of count_of same_words item_length item_at entry first_from parent_number session_number entry_of place_of history vote_of counted
votes = refl

-- what is reported and printed of a history with so many items and main items, this end address and these counted ballots
module _ (h : History) {n m : ℕ} {xs : List Vote} (items : length h ≡ n) (mains : count main h ≡ m) (votes : counted h ≡ xs) where
  pub report-by : (f : Format) {a : List ℕ} → end_address f h ≡ a
      → report_of f (accepted h) ≡ record { number = 0; items = n; mains = m; end = filled 16 a; ballots = length xs; weight = total_weight xs }
  unfolding report_of
  report-by f end =
      λ i. record { number = 0; items = items i; mains = mains i; end = filled 16 (end i); ballots = length (votes i); weight = total_weight (votes i) }

  text-by : text_of (accepted h) ≡ accepted_line n m (length xs) (total_weight xs) ++ row_lines (ballot_rows xs)
  unfolding text_of
  text-by = λ i. accepted_line (items i) (mains i) (length (votes i)) (total_weight (votes i)) ++ row_lines (ballot_rows (votes i))

pub is-reported : report_of toy (accepted (history toy board 21))
    ≡ record { number = 0; items = 21; mains = 17; end = replicate 8 21 ++ replicate 8 0; ballots = 1; weight = 5 }
unfolding total_weight filled
is-reported = report-by past (length-history toy board 21) mains votes toy end

pub ballot-row : ballot_rows (counted (history toy board 21)) ≡ 13 ∷ 9 ∷ 5 ∷ []
unfolding ballot_rows
ballot-row = ap ballot_rows votes

-- the index table, a row for each item: place, parent, session, main items before it, what closed it. Item 12 spoils the ballot 9, and
-- item 18 casts the ballot 17
pub index-table : index_rows (history toy board 21) 0 (history toy board 21)
    ≡ 0 ∷ 1 ∷ 4294967295 ∷ 0 ∷ 4294967295
    ∷ 60 ∷ 1 ∷ 4294967295 ∷ 1 ∷ 4294967295
    ∷ 104 ∷ 2 ∷ 4294967295 ∷ 2 ∷ 4294967295
    ∷ 157 ∷ 3 ∷ 4294967295 ∷ 3 ∷ 4294967295
    ∷ 209 ∷ 4 ∷ 4294967295 ∷ 4 ∷ 4294967295
    ∷ 258 ∷ 5 ∷ 6 ∷ 5 ∷ 4294967295
    ∷ 320 ∷ 6 ∷ 6 ∷ 6 ∷ 4294967295
    ∷ 372 ∷ 7 ∷ 6 ∷ 7 ∷ 4294967295
    ∷ 424 ∷ 8 ∷ 6 ∷ 8 ∷ 12
    ∷ 485 ∷ 9 ∷ 6 ∷ 9 ∷ 4294967295
    ∷ 528 ∷ 10 ∷ 6 ∷ 9 ∷ 4294967295
    ∷ 579 ∷ 9 ∷ 6 ∷ 9 ∷ 4294967295
    ∷ 622 ∷ 11 ∷ 6 ∷ 10 ∷ 4294967295
    ∷ 666 ∷ 13 ∷ 6 ∷ 10 ∷ 4294967295
    ∷ 710 ∷ 6 ∷ 6 ∷ 10 ∷ 4294967295
    ∷ 762 ∷ 15 ∷ 6 ∷ 11 ∷ 4294967295
    ∷ 814 ∷ 16 ∷ 6 ∷ 12 ∷ 18
    ∷ 875 ∷ 17 ∷ 6 ∷ 13 ∷ 4294967295
    ∷ 918 ∷ 5 ∷ 4294967295 ∷ 14 ∷ 4294967295
    ∷ 961 ∷ 19 ∷ 4294967295 ∷ 15 ∷ 4294967295
    ∷ 1012 ∷ 20 ∷ 4294967295 ∷ 16 ∷ 4294967295
    ∷ []
unfolding election words_in words_of hashed if◌then◌otherwise◌ part count code_of count_of kind_of same_words item_length item_at entry first_from parent_number session_number entry_of closer place_of history number_word index_row_of index_rows
index-table = refl

-- the spoiled ballot's hidden track: items 10, 11, 13 and 14 lead up to it, and the ballot to its session and genesis
pub track : ancestry (history toy board 21) 14 ≡ 14 ∷ 13 ∷ 11 ∷ 10 ∷ 9 ∷ 8 ∷ 7 ∷ 6 ∷ 5 ∷ 4 ∷ 3 ∷ 2 ∷ 1 ∷ []
unfolding election words_in words_of hashed if◌then◌otherwise◌ part code_of count_of kind_of same_words item_length item_at entry first_from parent_number session_number entry_of place_of history ancestry up_to
track = refl

-- `accepted 21 17 1 5` and `13 9 5`
pub text : text_of (accepted (history toy board 21))
    ≡ 97 ∷ 99 ∷ 99 ∷ 101 ∷ 112 ∷ 116 ∷ 101 ∷ 100 ∷ 32 ∷ 50 ∷ 49 ∷ 32 ∷ 49 ∷ 55 ∷ 32 ∷ 49 ∷ 32 ∷ 53 ∷ 10 ∷ 49 ∷ 51 ∷ 32 ∷ 57 ∷ 32 ∷ 53 ∷ 10 ∷ []
unfolding total_weight ballot_rows accepted_line row_lines spaced digits if◌then◌otherwise◌
text = text-by past (length-history toy board 21) mains votes
