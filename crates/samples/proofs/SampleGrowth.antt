-- One more item: five pairs of boards under toy hashes, the second of each with one more main item: a text, a session, a spoil, the cast of a new
-- voter, and a cast again. Both are accepted; what is reported and written for them is computed to the word, and so is the step from the one to the
-- other. So what is proved of one more item is proved of such items. Paper: request (xiii). Assumes nothing.
use Prim.Native.Nat.{ℕ, ◌≤◌}
use native.Mathlib.Omega.{arith}
use mathlib.Core.Path.{◌≡◌, refl, ap, ◌∙◌}
use mathlib.Core.List.{List, [], ◌∷◌, ◌++◌, append_assoc, append-nil}
use lib.ListN.{length, replicate, take, length-append}
use lib.Dec.{T, lit≤}
use lib.Count.{ones_in}
use Rattle.model.specs.Lists.{if◌then◌otherwise◌, ◌⇒◌, part, any, count, keep, latest}
use Rattle.model.specs.Words.{kind_of, code_of, count_of, same_words, pair, low_zero, bit, in_words, size, every_below, all_in}
use Rattle.model.specs.Format.{Format}
use Rattle.model.specs.Traits.{traits_known, traits_of, set_words, curve_of, format_of}
use Rattle.model.specs.Item.{item_length, item_at, hashed, words_of, is_main}
use Rattle.model.specs.Types.{row_of, row_in, table, fits}
use Rattle.model.specs.History.{History, entry, first_from, last_from, main_item, end_after, end_address, parent_number, session_number, entry_of, closer, place_of, history}
use Rattle.model.specs.Counted.{vote_of, counted, contents, total_weight}
use Rattle.model.specs.Links.{address_ok, previous_ok, parent_ok, time_ok}
use Rattle.model.specs.Phase.{rounds, is_open, extraction_ok, open_ok, standing_ok, latest_ok, intent_ok, spoiled_ok, phase_ok}
use Rattle.model.specs.Only.{on_board_ok, under_parent_ok, under_ballot_ok, only_ok}
use Rattle.model.specs.Content.{contests_ok, may_vote, cryptograms_ok, genesis_ok, contest_ok, threshold_ok, authorizer_ok, round_ok, session_ok, commitment_ok, ballot_ok, fingerprint_ok, trustees_ok, content_ok}
use Rattle.model.specs.Roll.{electors, rising, is_bad_roll, on_roll, on_roll_ok}
use Rattle.model.specs.Keys.{opening, key_of, verdict_ok, key_ok, signature_ok}
use Rattle.model.specs.Audit.{accepted, first_unmet, checks, fault_in, head_fault, closing, judged, word_at, items, reading, audit, index_need, ballot_need}
use Rattle.model.specs.Report.{Report, filled, report_of, number_word, index_row_of, index_rows, ballot_rows, table_after}
use Rattle.growth.specs.Growth.{OneMore, Audited, audited, rows_read, first_of, new_parent, new_session, closed_index, new_vote, new_ballots, is_new_voter, follow}
use Rattle.samples.proofs.SampleElection.{toys, Signed, ◌by◌, item, key, election, words_in, verdicts_in, board_of, roll, own_answer, items-in, accepted-by}

-- ---- the boards. Item n has the time n, as in the sample election

infixl 70 ◌then◌
abbrev pub ◌then◌ : List Signed → Signed → List Signed
ss then s = ss ++ (s ∷ [])

abbrev commitment : List ℕ
commitment = replicate 9 0

abbrev ballot : List ℕ
ballot = 1 ∷ replicate 16 6 ++ (0x80000 ∷ [])

-- 16 items: the sample election up to the ballot of voter 9, item 9, which is cast; a session of voter 3, whose key is 6, and a ballot, item 14; on
-- that two hidden items, which one more main item stands behind
unfoldable pub sixteen : List Signed
sixteen =
    take 9 election
    then item 0x10140000 [] 9 9 10 by 4
    then item 0x10100013 (3 ∷ 2 ∷ key 6 ++ key 0 ++ (1 ∷ [])) 5 10 11 by 3
    then item 0x10110009 commitment 11 11 12 by 6
    then item 0x10120009 commitment 12 12 13 by 2
    then item 0x10130012 ballot 13 13 14 by 6
    then item 0x20300000 [] 14 14 15 by 2
    then item 0x20310008 (key 5) 15 15 16 by 5

-- what may come next: a text under the round, item 5; a new session of voter 9, whose key is 7 then; the spoil of the ballot 14, or its cast
abbrev text : Signed
text = item 0x10020001 (77 ∷ []) 5 14 17 by 1

abbrev session : Signed
session = item 0x10100013 (9 ∷ 5 ∷ key 7 ++ key 0 ++ (1 ∷ [])) 5 14 17 by 3

abbrev spoil : Signed
spoil = item 0x10150000 [] 14 14 17 by 6

abbrev cast : Signed
cast = item 0x10140000 [] 14 14 17 by 6

-- with that cast, such a session, and a ballot, item 21: 21 items; and the cast of that ballot
unfoldable pub twenty_one : List Signed
twenty_one =
    sixteen
    then cast
    then item 0x10100013 (9 ∷ 5 ∷ key 7 ++ key 0 ++ (1 ∷ [])) 5 17 18 by 3
    then item 0x10110009 commitment 18 18 19 by 7
    then item 0x10120009 commitment 19 19 20 by 2
    then item 0x10130012 ballot 20 20 21 by 7

abbrev cast_again : Signed
cast_again = item 0x10140000 [] 21 21 22 by 7

-- ---- what is said of a pair

-- each board is read in its own format
abbrev format_in : List Signed → Format
format_in ss = format_of toys (board_of ss)

abbrev past : List Signed → History
past ss = history (format_in ss) (board_of ss) (length ss)

-- what is reported and written, in tables that held eights; they have 22 and 3 rows, which is fewer than the audit asks for, and enough to see it
abbrev told : List Signed → Audited
told ss = audited (format_in ss) (accepted (past ss)) (replicate 110 8) (replicate 9 8)

-- both boards are accepted, the second has the main item s more, a and b are what is reported and written, and b is what follows from a
pub record Pair (ss : List Signed) (s : Signed) (a b : Audited) : Type 0 where
  pub accepts : own_answer ss ≡ accepted (past ss)
  pub accepts_more : own_answer (ss then s) ≡ accepted (past (ss then s))
  pub one_more : OneMore (board_of ss) (board_of (ss then s))
  pub item : item_at (format_in ss) one_more.more 0 ≡ s.item
  pub main : T (is_main s.item)
  pub before : told ss ≡ a
  pub after : told (ss then s) ≡ b
  pub step : follow (format_in ss) (board_of ss) (told ss) s.item ≡ b

-- ---- any such boards

words-then : (ss : List Signed) (s : Signed) → words_in (ss then s) ≡ words_in ss ++ words_of s.item
unfolding words_in
words-then [] s = append-nil (words_of s.item)
words-then (r ∷ ss) s = rw (words-then ss s) (simp append_assoc)

pub one_more_lem : (ss : List Signed) (s : Signed) → OneMore (board_of ss) (board_of (ss then s))
one_more_lem ss s = record {
  words = words_in ss;
  number = length ss;
  more = words_of s.item;
  closed = refl;
  closed_later = rw (words-then ss s, length-append ss (s ∷ [])) (simp append_assoc);
}

abbrev next : List Signed → Audited → Signed → Audited
next ss a s = follow (format_in ss) (board_of ss) a s.item

is-accepted : (ss : List Signed) → items-in (own_answer ss) ≡ length ss → 1 ≤ length ss → own_answer ss ≡ accepted (past ss)
is-accepted ss all some = accepted-by (format_in ss) (board_of ss) (verdicts_in ss) roll index_need ballot_need (length ss) _ refl all some

is-pair : (ss : List Signed) (s : Signed) {a b : Audited} → 1 ≤ length ss
    → items-in (own_answer ss) ≡ length ss → items-in (own_answer (ss then s)) ≡ length (ss then s)
    → item_at (format_in ss) (words_of s.item) 0 ≡ s.item → T (is_main s.item) → told ss ≡ a → told (ss then s) ≡ b → next ss a s ≡ b → Pair ss s a b
unfolding one_more_lem
is-pair ss s some all all_more item main before after step = record {
  accepts = is-accepted ss all some;
  accepts_more = is-accepted (ss then s) all_more (omega (arith, length-append ss (s ∷ [])));
  one_more = one_more_lem ss s;
  item = item;
  main = main;
  before = before;
  after = after;
  step = ap (λ (x : Audited). next ss x s) before ∙ step;
}

-- ---- the five pairs, as literal words

-- number 0, so many items and main items, the last main item's time as its address, ballots and weight
abbrev reported : ℕ → ℕ → ℕ → ℕ → ℕ → Report
reported items mains last ballots weight =
    record { number = 0; items = items; mains = mains; end = replicate 8 last ++ replicate 8 0; ballots = ballots; weight = weight }

-- the index rows of items 1 to 16: place, parent, session, main items before it, what closed it. That of the ballot 14 is given
abbrev rows : ℕ → List ℕ
rows closed_by =
    0 ∷ 1 ∷ 4294967295 ∷ 0 ∷ 4294967295
    ∷ 60 ∷ 1 ∷ 4294967295 ∷ 1 ∷ 4294967295
    ∷ 104 ∷ 2 ∷ 4294967295 ∷ 2 ∷ 4294967295
    ∷ 157 ∷ 3 ∷ 4294967295 ∷ 3 ∷ 4294967295
    ∷ 209 ∷ 4 ∷ 4294967295 ∷ 4 ∷ 4294967295
    ∷ 258 ∷ 5 ∷ 6 ∷ 5 ∷ 4294967295
    ∷ 320 ∷ 6 ∷ 6 ∷ 6 ∷ 4294967295
    ∷ 372 ∷ 7 ∷ 6 ∷ 7 ∷ 4294967295
    ∷ 424 ∷ 8 ∷ 6 ∷ 8 ∷ 10
    ∷ 485 ∷ 9 ∷ 6 ∷ 9 ∷ 4294967295
    ∷ 528 ∷ 5 ∷ 11 ∷ 10 ∷ 4294967295
    ∷ 590 ∷ 11 ∷ 11 ∷ 11 ∷ 4294967295
    ∷ 642 ∷ 12 ∷ 11 ∷ 12 ∷ 4294967295
    ∷ 694 ∷ 13 ∷ 11 ∷ 13 ∷ closed_by
    ∷ 755 ∷ 14 ∷ 11 ∷ 14 ∷ 4294967295
    ∷ 798 ∷ 15 ∷ 11 ∷ 14 ∷ 4294967295
    ∷ []

-- and of items 17 to 21, of which the first is the cast of the ballot 14; what closed the ballot 21 is given
abbrev later_rows : ℕ → List ℕ
later_rows closed_by =
    849 ∷ 14 ∷ 11 ∷ 14 ∷ 4294967295
    ∷ 892 ∷ 5 ∷ 18 ∷ 15 ∷ 4294967295
    ∷ 954 ∷ 18 ∷ 18 ∷ 16 ∷ 4294967295
    ∷ 1006 ∷ 19 ∷ 18 ∷ 17 ∷ 4294967295
    ∷ 1058 ∷ 20 ∷ 18 ∷ 18 ∷ closed_by
    ∷ []

-- 16 items: the ballot 14 is open, and one ballot counts, main item 9, of voter 9 with the weight 5
abbrev after_sixteen : Audited
after_sixteen = record {
  report = reported 16 14 14 1 5;
  index = rows 4294967295 ++ replicate 30 0;
  ballots = 9 ∷ 9 ∷ 5 ∷ replicate 6 0;
}

-- and a text: its own row is new, in no session; ballots and weight are the same
abbrev after_text : Audited
after_text = record {
  report = reported 17 15 17 1 5;
  index = rows 4294967295 ++ (849 ∷ 5 ∷ 4294967295 ∷ 14 ∷ 4294967295 ∷ replicate 25 0);
  ballots = 9 ∷ 9 ∷ 5 ∷ replicate 6 0;
}

-- or a session: so they are, and it is its own session
abbrev after_session : Audited
after_session = record {
  report = reported 17 15 17 1 5;
  index = rows 4294967295 ++ (849 ∷ 5 ∷ 17 ∷ 14 ∷ 4294967295 ∷ replicate 25 0);
  ballots = 9 ∷ 9 ∷ 5 ∷ replicate 6 0;
}

-- or a spoil: so they are, and item 17 closed the ballot 14
abbrev after_spoil : Audited
after_spoil = record {
  report = reported 17 15 17 1 5;
  index = rows 17 ++ (849 ∷ 14 ∷ 11 ∷ 14 ∷ 4294967295 ∷ replicate 25 0);
  ballots = 9 ∷ 9 ∷ 5 ∷ replicate 6 0;
}

-- or a cast, of voter 3 with the weight 2, who had no row: one ballot more, and the weight grows by 2
abbrev after_cast : Audited
after_cast = record {
  report = reported 17 15 17 2 7;
  index = rows 17 ++ (849 ∷ 14 ∷ 11 ∷ 14 ∷ 4294967295 ∷ replicate 25 0);
  ballots = 9 ∷ 9 ∷ 5 ∷ 14 ∷ 3 ∷ 2 ∷ replicate 3 0;
}

-- 21 items: the same ballots count
abbrev after_twenty_one : Audited
after_twenty_one = record {
  report = reported 21 19 21 2 7;
  index = rows 17 ++ later_rows 4294967295 ++ replicate 5 0;
  ballots = 9 ∷ 9 ∷ 5 ∷ 14 ∷ 3 ∷ 2 ∷ replicate 3 0;
}

-- and a cast again, of voter 9: the row that stood first is gone, and the new one stands last; ballots and weight are the same. Item 21 is main item 19
abbrev after_cast_again : Audited
after_cast_again = record {
  report = reported 22 20 22 2 7;
  index = rows 17 ++ later_rows 22 ++ (1119 ∷ 21 ∷ 18 ∷ 19 ∷ 4294967295 ∷ []);
  ballots = 14 ∷ 3 ∷ 2 ∷ 19 ∷ 9 ∷ 5 ∷ replicate 3 0;
}

-- ---- they are so: computed

all-accepted : (items-in (own_answer sixteen) ≡ 16) × (items-in (own_answer (sixteen then text)) ≡ 17)
    × (items-in (own_answer (sixteen then session)) ≡ 17)
    × (items-in (own_answer (sixteen then spoil)) ≡ 17) × (items-in (own_answer (sixteen then cast)) ≡ 17)
    × (items-in (own_answer twenty_one) ≡ 21) × (items-in (own_answer (twenty_one then cast_again)) ≡ 22)
unfolding sixteen twenty_one election traits_of set_words curve_of words_in verdicts_in words_of hashed if◌then◌otherwise◌ ◌⇒◌ part any count keep latest ones_in kind_of code_of count_of same_words pair low_zero bit in_words size every_below all_in item_length item_at row_of row_in table fits entry first_from last_from main_item end_after end_address parent_number session_number entry_of place_of history vote_of counted contents address_ok previous_ok parent_ok time_ok rounds is_open extraction_ok open_ok standing_ok latest_ok intent_ok spoiled_ok phase_ok on_board_ok under_parent_ok under_ballot_ok only_ok contests_ok may_vote cryptograms_ok genesis_ok traits_known contest_ok threshold_ok authorizer_ok round_ok session_ok commitment_ok ballot_ok fingerprint_ok trustees_ok content_ok electors rising is_bad_roll on_roll on_roll_ok opening key_of verdict_ok key_ok signature_ok first_unmet checks fault_in head_fault closing judged word_at reading audit items-in
all-accepted = (refl, refl, refl, refl, refl, refl, refl)

all_told : (told sixteen ≡ after_sixteen) × (told (sixteen then text) ≡ after_text) × (told (sixteen then session) ≡ after_session)
    × (told (sixteen then spoil) ≡ after_spoil)
    × (told (sixteen then cast) ≡ after_cast) × (told twenty_one ≡ after_twenty_one) × (told (twenty_one then cast_again) ≡ after_cast_again)
unfolding sixteen twenty_one election traits_of traits_known set_words curve_of words_in words_of hashed if◌then◌otherwise◌ part any count keep latest kind_of code_of count_of same_words item_length item_at entry first_from main_item end_after end_address parent_number session_number entry_of closer place_of history vote_of counted total_weight filled report_of number_word index_row_of index_rows ballot_rows table_after
all_told = (refl, refl, refl, refl, refl, refl, refl)

all-followed : (next sixteen after_sixteen text ≡ after_text) × (next sixteen after_sixteen session ≡ after_session)
    × (next sixteen after_sixteen spoil ≡ after_spoil)
    × (next sixteen after_sixteen cast ≡ after_cast) × (next twenty_one after_twenty_one cast_again ≡ after_cast_again)
unfolding sixteen twenty_one election traits_of traits_known set_words curve_of words_in words_of hashed if◌then◌otherwise◌ part any keep kind_of code_of count_of same_words item_length item_at filled ballot_rows rows_read first_of new_parent new_session closed_index new_vote new_ballots is_new_voter follow
all-followed = (refl, refl, refl, refl, refl)

pub one-text : Pair sixteen text after_sixteen after_text
unfolding sixteen election traits_of traits_known set_words curve_of words_in words_of hashed if◌then◌otherwise◌ part kind_of count_of item_length item_at
one-text = is-pair sixteen text (lit≤ tt) all-accepted.0 all-accepted.1 refl tt all_told.0 all_told.1 all-followed.0

pub one-session : Pair sixteen session after_sixteen after_session
unfolding sixteen election traits_of traits_known set_words curve_of words_in words_of hashed if◌then◌otherwise◌ part kind_of count_of item_length item_at
one-session = is-pair sixteen session (lit≤ tt) all-accepted.0 all-accepted.2 refl tt all_told.0 all_told.2 all-followed.1

pub one-spoil : Pair sixteen spoil after_sixteen after_spoil
unfolding sixteen election traits_of traits_known set_words curve_of words_in words_of hashed if◌then◌otherwise◌ part kind_of count_of item_length item_at
one-spoil = is-pair sixteen spoil (lit≤ tt) all-accepted.0 all-accepted.3 refl tt all_told.0 all_told.3 all-followed.2

pub one-cast : Pair sixteen cast after_sixteen after_cast
unfolding sixteen election traits_of traits_known set_words curve_of words_in words_of hashed if◌then◌otherwise◌ part kind_of count_of item_length item_at
one-cast = is-pair sixteen cast (lit≤ tt) all-accepted.0 all-accepted.4 refl tt all_told.0 all_told.4 all-followed.3

pub cast-again : Pair twenty_one cast_again after_twenty_one after_cast_again
unfolding sixteen twenty_one election traits_of traits_known set_words curve_of words_in words_of hashed if◌then◌otherwise◌ part kind_of count_of item_length item_at
cast-again = is-pair twenty_one cast_again (lit≤ tt) all-accepted.5 all-accepted.6 refl tt all_told.5 all_told.6 all-followed.4
