-- Whole elections on the larger curves, under toy hashes, each audited in its own format by computing: they are sound; and with one thing changed
-- they are refused for that. Boards of two curves are apart. Paper: request (ix). Assumes nothing.
use Prim.Native.Nat.{ℕ, ◌-◌, ◌*◌, ◌^◌}
use mathlib.Core.Path.{◌≡◌, refl}
use mathlib.Core.List.{List, [], ◌∷◌, ◌++◌}
use lib.ListN.{take, replicate}
use lib.Dec.{lit≤}
use lib.Count.{ones_in}
use Rattle.model.specs.Lists.{if◌then◌otherwise◌, ◌⇒◌, part, any, count, keep, latest}
use Rattle.model.specs.Words.{kind_of, code_of, count_of, same_words, pair, low_zero, bit, in_words, size, every_below, all_in}
use Rattle.model.specs.Format.{Format, Hashes, Curve, secp256r1, secp384r1, secp521r1, format_on}
use Rattle.model.specs.Traits.{traits_known, traits_of, set_words, curve_of, format_of}
use Rattle.model.specs.Item.{item_length, item_at, hashed, words_of}
use Rattle.model.specs.Types.{row_of, row_in, table, fits}
use Rattle.model.specs.History.{History, main, entry, first_from, last_from, main_item, end_after, end_address, parent_number, session_number, entry_of, place_of, history}
use Rattle.model.specs.Counted.{Vote, vote_of, counted, contents, total_weight}
use Rattle.model.specs.Links.{address_ok, previous_ok, parent_ok, time_ok}
use Rattle.model.specs.Phase.{rounds, is_open, extraction_ok, open_ok, standing_ok, latest_ok, intent_ok, spoiled_ok, phase_ok}
use Rattle.model.specs.Only.{on_board_ok, under_parent_ok, under_ballot_ok, only_ok}
use Rattle.model.specs.Content.{contests_ok, may_vote, cryptograms_ok, genesis_ok, contest_ok, threshold_ok, authorizer_ok, round_ok, session_ok, commitment_ok, ballot_ok, fingerprint_ok, trustees_ok, content_ok}
use Rattle.model.specs.Roll.{electors, rising, is_bad_roll, on_roll, on_roll_ok}
use Rattle.model.specs.Keys.{opening, key_of, verdict_ok, key_ok, signature_ok}
use Rattle.model.specs.Audit.{refused, accepted, first_unmet, checks, fault_in, head_fault, closing, judged, word_at, reading, audit, index_need, ballot_need}
use Rattle.model.specs.Report.{filled, report_of}
use Rattle.model.specs.Sound.{Sound}
use Rattle.model.specs.Compare.{apart, same, collision, backwards, compare}
use Rattle.model.specs.Comparing.{ComparingAnswer, later_board, refused_board, compared, answer_later, comparing_answer}
use Rattle.model.proofs.Acceptance.{accepted↔sound}
use Rattle.model.proofs.Unchecked.{length-history}
use Rattle.samples.proofs.SampleElection.{toys, Signed, ◌by◌, item_on, key, election_on, words_in, verdicts_in, board_of, roll, own_answer, items-in, accepted-by, report-by}
use Rattle.samples.proofs.SampleWide.{wide_on}

-- the sample election, written on a curve with these traits. A commitment's last word has the lowest bit that it may have
abbrev pub on : Curve → ℕ → List Signed
on c traits = election_on c (traits ∷ []) (2 ^ c.spare) 0x80000 (replicate 8 0x80000)

-- "1 SHA-384, 2 SHA-512" in bits 1 and 2
abbrev pub larger : List Signed
larger = on secp384r1 2

abbrev pub largest : List Signed
largest = on secp521r1 4

abbrev pub format_in : List Signed → Format
format_in ss = format_of toys (board_of ss)

abbrev pub past : List Signed → History
past ss = history (format_in ss) (board_of ss) 21

-- ---- they are accepted, and sound

pub formats-are : (format_in larger ≡ format_on toys secp384r1 1) × (format_in largest ≡ format_on toys secp521r1 1)
unfolding traits_of traits_known set_words curve_of words_in words_of hashed if◌then◌otherwise◌
formats-are = (refl, refl)

all-accepted : (items-in (own_answer larger) ≡ 21) × (items-in (own_answer largest) ≡ 21)
unfolding traits_of set_words curve_of words_in verdicts_in words_of hashed if◌then◌otherwise◌ ◌⇒◌ part any count keep latest ones_in kind_of code_of count_of same_words pair low_zero bit in_words size every_below all_in item_length item_at row_of row_in table fits entry first_from last_from main_item end_after end_address parent_number session_number entry_of place_of history vote_of counted contents address_ok previous_ok parent_ok time_ok rounds is_open extraction_ok open_ok standing_ok latest_ok intent_ok spoiled_ok phase_ok on_board_ok under_parent_ok under_ballot_ok only_ok contests_ok may_vote cryptograms_ok genesis_ok traits_known contest_ok threshold_ok authorizer_ok round_ok session_ok commitment_ok ballot_ok fingerprint_ok trustees_ok content_ok electors rising is_bad_roll on_roll on_roll_ok opening key_of verdict_ok key_ok signature_ok first_unmet checks fault_in head_fault closing judged word_at reading audit items-in
all-accepted = (refl, refl)

module _ (ss : List Signed) (all : items-in (own_answer ss) ≡ 21) where
  is-accepted : own_answer ss ≡ accepted (past ss)
  is-accepted = accepted-by (format_in ss) (board_of ss) (verdicts_in ss) roll index_need ballot_need 21 _ refl all (lit≤ tt)

  is-sound : Sound (format_in ss) (board_of ss) (verdicts_in ss) roll (past ss)
  is-sound = ((accepted↔sound (format_in ss) (board_of ss) (verdicts_in ss) roll index_need ballot_need (past ss)).0 is-accepted).0

pub larger-accepted : own_answer larger ≡ accepted (past larger)
larger-accepted = is-accepted larger all-accepted.0

pub larger-sound : Sound (format_in larger) (board_of larger) (verdicts_in larger) roll (past larger)
larger-sound = is-sound larger all-accepted.0

pub largest-sound : Sound (format_in largest) (board_of largest) (verdicts_in largest) roll (past largest)
largest-sound = is-sound largest all-accepted.1

-- what is reported: the end address has 12 words and 16, and one ballot of weight 5 counts
abbrev vote : Curve → Vote
vote c = record { ballot = 13; voter = 9; weight = 5; content = 1 ∷ replicate (c.cryptogram - 1) 6 ++ (0x80000 ∷ []) }

mains : (count main (past larger) ≡ 17) × (count main (past largest) ≡ 17)
unfolding traits_of traits_known set_words curve_of words_in words_of hashed if◌then◌otherwise◌ part count kind_of count_of item_length item_at entry_of place_of history
mains = (refl, refl)

ends : (end_address (format_in larger) (past larger) ≡ replicate 12 (384 * 21)) × (end_address (format_in largest) (past largest) ≡ replicate 16 (512 * 21))
unfolding traits_of traits_known set_words curve_of words_in words_of hashed if◌then◌otherwise◌ part keep kind_of count_of item_length item_at main_item end_after end_address entry_of place_of history
ends = (refl, refl)

votes : (counted (past larger) ≡ vote secp384r1 ∷ []) × (counted (past largest) ≡ vote secp521r1 ∷ [])
unfolding traits_of traits_known set_words curve_of words_in words_of hashed if◌then◌otherwise◌ part any count keep latest kind_of code_of count_of same_words item_length item_at entry first_from parent_number session_number entry_of place_of history vote_of counted
votes = (refl, refl)

pub larger-reported : report_of (format_in larger) (accepted (past larger))
    ≡ record { number = 0; items = 21; mains = 17; end = replicate 12 (384 * 21) ++ replicate 4 0; ballots = 1; weight = 5 }
unfolding total_weight filled
larger-reported = report-by (past larger) (length-history (format_in larger) (board_of larger) 21) mains.0 votes.0 (format_in larger) ends.0

pub largest-reported : report_of (format_in largest) (accepted (past largest))
    ≡ record { number = 0; items = 21; mains = 17; end = replicate 16 (512 * 21); ballots = 1; weight = 5 }
unfolding total_weight filled
largest-reported = report-by (past largest) (length-history (format_in largest) (board_of largest) 21) mains.1 votes.1 (format_in largest) ends.1

-- with sets of eight words
pub wide-accepted : (items-in (own_answer (wide_on secp384r1 3)) ≡ 11) × (items-in (own_answer (wide_on secp521r1 5)) ≡ 11)
unfolding wide_on traits_of set_words curve_of words_in verdicts_in words_of hashed if◌then◌otherwise◌ ◌⇒◌ part any count keep latest ones_in kind_of code_of count_of same_words pair low_zero bit in_words size every_below all_in item_length item_at row_of row_in table fits entry first_from last_from main_item end_after end_address parent_number session_number entry_of place_of history vote_of counted contents address_ok previous_ok parent_ok time_ok rounds is_open extraction_ok open_ok standing_ok latest_ok intent_ok spoiled_ok phase_ok on_board_ok under_parent_ok under_ballot_ok only_ok contests_ok may_vote cryptograms_ok genesis_ok traits_known contest_ok threshold_ok authorizer_ok round_ok session_ok commitment_ok ballot_ok fingerprint_ok trustees_ok content_ok electors rising is_bad_roll on_roll on_roll_ok opening key_of verdict_ok key_ok signature_ok first_unmet checks fault_in head_fault closing judged word_at reading audit items-in
wide-accepted = (refl, refl)

-- ---- one thing changed

-- a curve with signatures, commitments or cryptograms of so many words, or with another hash
abbrev signatures : ℕ → Curve → Curve
signatures n c = record { address = c.address; signature = n; commitment = c.commitment; spare = c.spare; cryptogram = c.cryptogram; hash = c.hash }

abbrev pub commitments : ℕ → Curve → Curve
commitments n c = record { address = c.address; signature = c.signature; commitment = n; spare = c.spare; cryptogram = c.cryptogram; hash = c.hash }

abbrev cryptograms : ℕ → Curve → Curve
cryptograms n c = record { address = c.address; signature = c.signature; commitment = c.commitment; spare = c.spare; cryptogram = n; hash = c.hash }

abbrev hashed_by : (Hashes → List ℕ → List ℕ) → Curve → Curve
hashed_by hash c = record { address = c.address; signature = c.signature; commitment = c.commitment; spare = c.spare; cryptogram = c.cryptogram; hash = hash }

-- signatures of another curve's width: the genesis is read amiss, and alone it is too short
pub other-signatures : (own_answer (on (signatures 16 secp384r1) 2) ≡ refused 7 0) × (own_answer (on (signatures 33 secp384r1) 2) ≡ refused 7 0)
    × (own_answer (on (signatures 24 secp521r1) 4) ≡ refused 7 0) × (own_answer (take 1 (on (signatures 24 secp521r1) 4)) ≡ refused 4 0)
unfolding traits_of set_words curve_of words_in verdicts_in words_of hashed if◌then◌otherwise◌ ◌⇒◌ part any count keep latest ones_in kind_of code_of count_of same_words pair low_zero bit in_words size every_below all_in item_length item_at row_of row_in table fits entry first_from last_from main_item end_after end_address parent_number session_number entry_of place_of history vote_of counted contents address_ok previous_ok parent_ok time_ok rounds is_open extraction_ok open_ok standing_ok latest_ok intent_ok spoiled_ok phase_ok on_board_ok under_parent_ok under_ballot_ok only_ok contests_ok may_vote cryptograms_ok genesis_ok traits_known contest_ok threshold_ok authorizer_ok round_ok session_ok commitment_ok ballot_ok fingerprint_ok trustees_ok content_ok electors rising is_bad_roll on_roll on_roll_ok opening key_of verdict_ok key_ok signature_ok first_unmet checks fault_in head_fault closing judged word_at reading audit items-in
other-signatures = (refl, refl, refl, refl)

-- another hash's digests, cut to an address or filled up
pub other-hashes : (own_answer (on (hashed_by (λ s ws. take 12 (s.sha512 ws)) secp384r1) 2) ≡ refused 7 0)
    × (own_answer (on (hashed_by (λ s ws. s.sha384 ws ++ replicate 4 0) secp521r1) 4) ≡ refused 7 0)
unfolding traits_of set_words curve_of words_in verdicts_in words_of hashed if◌then◌otherwise◌ ◌⇒◌ part any count keep latest ones_in kind_of code_of count_of same_words pair low_zero bit in_words size every_below all_in item_length item_at row_of row_in table fits entry first_from last_from main_item end_after end_address parent_number session_number entry_of place_of history vote_of counted contents address_ok previous_ok parent_ok time_ok rounds is_open extraction_ok open_ok standing_ok latest_ok intent_ok spoiled_ok phase_ok on_board_ok under_parent_ok under_ballot_ok only_ok contests_ok may_vote cryptograms_ok genesis_ok traits_known contest_ok threshold_ok authorizer_ok round_ok session_ok commitment_ok ballot_ok fingerprint_ok trustees_ok content_ok electors rising is_bad_roll on_roll on_roll_ok opening key_of verdict_ok key_ok signature_ok first_unmet checks fault_in head_fault closing judged word_at reading audit items-in
other-hashes = (refl, refl)

-- commitments and cryptograms of another curve's width
pub other-widths : (own_answer (on (commitments 9 secp384r1) 2) ≡ refused 6 6) × (own_answer (on (commitments 13 secp521r1) 4) ≡ refused 6 6)
    × (own_answer (on (cryptograms 17 secp384r1) 2) ≡ refused 6 8) × (own_answer (on (cryptograms 25 secp521r1) 4) ≡ refused 6 8)
unfolding traits_of set_words curve_of words_in verdicts_in words_of hashed if◌then◌otherwise◌ ◌⇒◌ part any count keep latest ones_in kind_of code_of count_of same_words pair low_zero bit in_words size every_below all_in item_length item_at row_of row_in table fits entry first_from last_from main_item end_after end_address parent_number session_number entry_of place_of history vote_of counted contents address_ok previous_ok parent_ok time_ok rounds is_open extraction_ok open_ok standing_ok latest_ok intent_ok spoiled_ok phase_ok on_board_ok under_parent_ok under_ballot_ok only_ok contests_ok may_vote cryptograms_ok genesis_ok traits_known contest_ok threshold_ok authorizer_ok round_ok session_ok commitment_ok ballot_ok fingerprint_ok trustees_ok content_ok electors rising is_bad_roll on_roll on_roll_ok opening key_of verdict_ok key_ok signature_ok first_unmet checks fault_in head_fault closing judged word_at reading audit items-in
other-widths = (refl, refl, refl, refl)

-- the last words: of the commitments the lowest 24 bits on secp384r1, and 8 on secp521r1, of a cryptogram 16 on both; and a fingerprint by the
-- curve's own hash in place of SHA-256
abbrev pub ending : Curve → ℕ → ℕ → ℕ → List Signed
ending c traits commitment cryptogram = election_on c (traits ∷ []) commitment cryptogram (replicate 8 0x80000)

pub low_bits : (own_answer (ending secp384r1 2 0x800000 0x80000) ≡ refused 13 6) × (own_answer (ending secp521r1 4 0x80 0x80000) ≡ refused 13 6)
    × (own_answer (ending secp384r1 2 0 0x88000) ≡ refused 13 16) × (own_answer (ending secp521r1 4 0 0x88000) ≡ refused 13 16)
unfolding traits_of set_words curve_of words_in verdicts_in words_of hashed if◌then◌otherwise◌ ◌⇒◌ part any count keep latest ones_in kind_of code_of count_of same_words pair low_zero bit in_words size every_below all_in item_length item_at row_of row_in table fits entry first_from last_from main_item end_after end_address parent_number session_number entry_of place_of history vote_of counted contents address_ok previous_ok parent_ok time_ok rounds is_open extraction_ok open_ok standing_ok latest_ok intent_ok spoiled_ok phase_ok on_board_ok under_parent_ok under_ballot_ok only_ok contests_ok may_vote cryptograms_ok genesis_ok traits_known contest_ok threshold_ok authorizer_ok round_ok session_ok commitment_ok ballot_ok fingerprint_ok trustees_ok content_ok electors rising is_bad_roll on_roll on_roll_ok opening key_of verdict_ok key_ok signature_ok first_unmet checks fault_in head_fault closing judged word_at reading audit items-in
low_bits = (refl, refl, refl, refl)

pub own-fingerprints : (own_answer (election_on secp384r1 (2 ∷ []) 0 0x80000 (replicate 8 (384 * 0x80000))) ≡ refused 13 19)
    × (own_answer (election_on secp521r1 (4 ∷ []) 0 0x80000 (replicate 8 (512 * 0x80000))) ≡ refused 13 19)
unfolding traits_of set_words curve_of words_in verdicts_in words_of hashed if◌then◌otherwise◌ ◌⇒◌ part any count keep latest ones_in kind_of code_of count_of same_words pair low_zero bit in_words size every_below all_in item_length item_at row_of row_in table fits entry first_from last_from main_item end_after end_address parent_number session_number entry_of place_of history vote_of counted contents address_ok previous_ok parent_ok time_ok rounds is_open extraction_ok open_ok standing_ok latest_ok intent_ok spoiled_ok phase_ok on_board_ok under_parent_ok under_ballot_ok only_ok contests_ok may_vote cryptograms_ok genesis_ok traits_known contest_ok threshold_ok authorizer_ok round_ok session_ok commitment_ok ballot_ok fingerprint_ok trustees_ok content_ok electors rising is_bad_roll on_roll on_roll_ok opening key_of verdict_ok key_ok signature_ok first_unmet checks fault_in head_fault closing judged word_at reading audit items-in
own-fingerprints = (refl, refl)

-- a verdict word left over
pub left_over : audit (format_in larger) (board_of larger) (verdicts_in larger ++ (0 ∷ [])) roll index_need ballot_need ≡ refused 18 21
unfolding traits_of set_words curve_of words_in verdicts_in words_of hashed if◌then◌otherwise◌ ◌⇒◌ part any count keep latest ones_in kind_of code_of count_of same_words pair low_zero bit in_words size every_below all_in item_length item_at row_of row_in table fits entry first_from last_from main_item end_after end_address parent_number session_number entry_of place_of history vote_of counted contents address_ok previous_ok parent_ok time_ok rounds is_open extraction_ok open_ok standing_ok latest_ok intent_ok spoiled_ok phase_ok on_board_ok under_parent_ok under_ballot_ok only_ok contests_ok may_vote cryptograms_ok genesis_ok traits_known contest_ok threshold_ok authorizer_ok round_ok session_ok commitment_ok ballot_ok fingerprint_ok trustees_ok content_ok electors rising is_bad_roll on_roll on_roll_ok opening key_of verdict_ok key_ok signature_ok first_unmet checks fault_in head_fault closing judged word_at reading audit items-in
left_over = refl

-- ---- traits

-- 6 and 7 would choose curve 3, and 8 has another bit: 13 with today's widths, and 7 with those of a larger curve, whose address stands elsewhere
pub unknown-traits : (own_answer (on secp256r1 6) ≡ refused 13 0) × (own_answer (on secp256r1 7) ≡ refused 13 0) × (own_answer (on secp256r1 8) ≡ refused 13 0)
    × (own_answer (on secp384r1 6) ≡ refused 7 0) × (own_answer (on secp521r1 7) ≡ refused 7 0) × (own_answer (on secp384r1 8) ≡ refused 7 0)
unfolding traits_of set_words curve_of words_in verdicts_in words_of hashed if◌then◌otherwise◌ ◌⇒◌ part any count keep latest ones_in kind_of code_of count_of same_words pair low_zero bit in_words size every_below all_in item_length item_at row_of row_in table fits entry first_from last_from main_item end_after end_address parent_number session_number entry_of place_of history vote_of counted contents address_ok previous_ok parent_ok time_ok rounds is_open extraction_ok open_ok standing_ok latest_ok intent_ok spoiled_ok phase_ok on_board_ok under_parent_ok under_ballot_ok only_ok contests_ok may_vote cryptograms_ok genesis_ok traits_known contest_ok threshold_ok authorizer_ok round_ok session_ok commitment_ok ballot_ok fingerprint_ok trustees_ok content_ok electors rising is_bad_roll on_roll on_roll_ok opening key_of verdict_ok key_ok signature_ok first_unmet checks fault_in head_fault closing judged word_at reading audit items-in
unknown-traits = (refl, refl, refl, refl, refl, refl)

-- the traits of one curve on a board of another: the address stands elsewhere, or a genesis alone is too short. With bit 0 where sets have one
-- word, the round is too short; without it where they have eight, contest 33 is none
pub other-traits : (own_answer (on secp256r1 2) ≡ refused 7 0) × (own_answer (on secp521r1 2) ≡ refused 7 0) × (own_answer (on secp384r1 0) ≡ refused 7 0)
    × (own_answer (take 1 (on secp256r1 2)) ≡ refused 4 0) × (own_answer (take 1 (on secp384r1 4)) ≡ refused 4 0)
    × (own_answer (on secp384r1 3) ≡ refused 6 4) × (own_answer (wide_on secp521r1 4) ≡ refused 13 1)
unfolding wide_on traits_of set_words curve_of words_in verdicts_in words_of hashed if◌then◌otherwise◌ ◌⇒◌ part any count keep latest ones_in kind_of code_of count_of same_words pair low_zero bit in_words size every_below all_in item_length item_at row_of row_in table fits entry first_from last_from main_item end_after end_address parent_number session_number entry_of place_of history vote_of counted contents address_ok previous_ok parent_ok time_ok rounds is_open extraction_ok open_ok standing_ok latest_ok intent_ok spoiled_ok phase_ok on_board_ok under_parent_ok under_ballot_ok only_ok contests_ok may_vote cryptograms_ok genesis_ok traits_known contest_ok threshold_ok authorizer_ok round_ok session_ok commitment_ok ballot_ok fingerprint_ok trustees_ok content_ok electors rising is_bad_roll on_roll on_roll_ok opening key_of verdict_ok key_ok signature_ok first_unmet checks fault_in head_fault closing judged word_at reading audit items-in
other-traits = (refl, refl, refl, refl, refl, refl, refl)

-- ---- comparing

-- a genesis alone on a curve, with these traits and this time
abbrev genesis : Curve → ℕ → ℕ → List Signed
genesis c traits time = item_on c 0x10010012 (7 ∷ key 1 ++ key 2 ++ (traits ∷ [])) 0 0 time by 1 ∷ []

abbrev comparing : List Signed → List Signed → ℕ → ComparingAnswer
comparing kept later b = comparing_answer (own_answer kept) (own_answer later) b

-- "Two boards with different address widths compare as apart", also where one address begins with the other; 19 comes before that
pub two-curves : (comparing (genesis secp256r1 0 384) (genesis secp384r1 2 1) 1 ≡ compared apart)
    × (comparing (genesis secp384r1 2 1) (genesis secp256r1 0 384) 1 ≡ compared apart)
    × (comparing (genesis secp384r1 2 4) (genesis secp521r1 4 3) 1 ≡ compared apart)
    × (comparing (genesis secp256r1 0 384) (genesis secp384r1 2 1) 0 ≡ refused_board later_board 19 1)
    × (comparing (genesis secp256r1 0 384) (genesis secp384r1 2 1) 2 ≡ refused_board later_board 19 1)
unfolding comparing_answer answer_later compare backwards traits_of set_words curve_of words_in verdicts_in words_of hashed if◌then◌otherwise◌ ◌⇒◌ part any count keep latest ones_in kind_of code_of count_of same_words pair low_zero bit in_words size every_below all_in item_length item_at row_of row_in table fits entry first_from last_from main_item end_after end_address parent_number session_number entry_of place_of history vote_of counted contents address_ok previous_ok parent_ok time_ok rounds is_open extraction_ok open_ok standing_ok latest_ok intent_ok spoiled_ok phase_ok on_board_ok under_parent_ok under_ballot_ok only_ok contests_ok may_vote cryptograms_ok genesis_ok traits_known contest_ok threshold_ok authorizer_ok round_ok session_ok commitment_ok ballot_ok fingerprint_ok trustees_ok content_ok electors rising is_bad_roll on_roll on_roll_ok opening key_of verdict_ok key_ok signature_ok first_unmet checks fault_in head_fault closing judged word_at reading audit items-in
two-curves = (refl, refl, refl, refl, refl)

-- boards of one curve compare as ever, whatever the widths of their sets: the toy hash is of the time alone, so one more trait collides
pub one-curve : (comparing (genesis secp384r1 2 1) (genesis secp384r1 2 1) 1 ≡ compared same)
    × (comparing (genesis secp384r1 2 1) (genesis secp384r1 2 5) 1 ≡ compared apart)
    × (comparing (genesis secp384r1 2 1) (genesis secp384r1 3 1) 1 ≡ compared (collision 1 1))
    × (comparing (genesis secp521r1 5 1) (genesis secp521r1 5 1) 1 ≡ compared same)
unfolding comparing_answer answer_later compare backwards traits_of set_words curve_of words_in verdicts_in words_of hashed if◌then◌otherwise◌ ◌⇒◌ part any count keep latest ones_in kind_of code_of count_of same_words pair low_zero bit in_words size every_below all_in item_length item_at row_of row_in table fits entry first_from last_from main_item end_after end_address parent_number session_number entry_of place_of history vote_of counted contents address_ok previous_ok parent_ok time_ok rounds is_open extraction_ok open_ok standing_ok latest_ok intent_ok spoiled_ok phase_ok on_board_ok under_parent_ok under_ballot_ok only_ok contests_ok may_vote cryptograms_ok genesis_ok traits_known contest_ok threshold_ok authorizer_ok round_ok session_ok commitment_ok ballot_ok fingerprint_ok trustees_ok content_ok electors rising is_bad_roll on_roll on_roll_ok opening key_of verdict_ok key_ok signature_ok first_unmet checks fault_in head_fault closing judged word_at reading audit items-in
one-curve = (refl, refl, refl, refl)
