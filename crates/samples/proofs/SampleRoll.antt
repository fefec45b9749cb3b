-- The sample election with its roll, with bad ones, and with ones that do not have its session's voter with that weight; and a second
-- session. Paper: request (i). Assumes nothing.
use Prim.Native.Nat.{ℕ}
use mathlib.Core.Path.{◌≡◌, refl, ap}
use mathlib.Core.List.{List, [], ◌∷◌, ◌++◌}
use lib.ListN.{take}
use lib.Count.{ones_in}
use Rattle.model.specs.Lists.{if◌then◌otherwise◌, ◌⇒◌, part, any, count, keep, latest}
use Rattle.model.specs.Words.{kind_of, code_of, count_of, same_words, pair, low_zero, bit, in_words, size, every_below, all_in}
use Rattle.model.specs.Traits.{traits_known}
use Rattle.model.specs.Item.{item_length, item_at, hashed, words_of}
use Rattle.model.specs.Types.{row_of, row_in, table, fits}
use Rattle.model.specs.History.{entry, first_from, last_from, main_item, end_after, end_address, parent_number, session_number, entry_of, place_of, history}
use Rattle.model.specs.Counted.{vote_of, counted, contents, total_weight}
use Rattle.model.specs.Links.{address_ok, previous_ok, parent_ok, time_ok}
use Rattle.model.specs.Phase.{rounds, is_open, extraction_ok, open_ok, standing_ok, latest_ok, intent_ok, spoiled_ok, phase_ok}
use Rattle.model.specs.Only.{on_board_ok, under_parent_ok, under_ballot_ok, only_ok}
use Rattle.model.specs.Content.{contests_ok, may_vote, cryptograms_ok, genesis_ok, contest_ok, threshold_ok, authorizer_ok, round_ok, session_ok, commitment_ok, ballot_ok, fingerprint_ok, trustees_ok, content_ok}
use Rattle.model.specs.Roll.{electors, rising, is_bad_roll, on_roll, on_roll_ok, roll_weight}
use Rattle.model.specs.Keys.{opening, key_of, verdict_ok, key_ok, signature_ok}
use Rattle.model.specs.Audit.{Outcome, unread, refused, accepted, first_unmet, checks, fault_in, head_fault, closing, judged, word_at, reading, audit, index_need, ballot_need}
use Rattle.samples.proofs.SampleElection.{Signed, ◌by◌, item, key, toy, election, words_in, verdicts_in, board_of, board, verdicts, roll, items-in, is-accepted, votes}

-- the answer for the election with a roll
abbrev answer : List ℕ → Outcome
answer roll = audit toy board verdicts roll index_need ballot_need

-- and for other items
abbrev answer_of : List Signed → List ℕ → Outcome
answer_of ss roll = audit toy (board_of ss) (verdicts_in ss) roll index_need ballot_need

-- item 6 is the session: voter 9, with the weight 5. The others do not vote, one of them with the weight 0
pub with-roll : answer roll ≡ accepted (history toy board 21)
with-roll = is-accepted

-- the counted ballots weigh 5, the roll 7: the claim of the weights is a bound, so this is what fixes the roll's weight
pub weights : (total_weight (counted (history toy board 21)) ≡ 5) × (roll_weight (electors (3 ∷ 2 ∷ 9 ∷ 5 ∷ 20 ∷ 0 ∷ [])) ≡ 7)
unfolding total_weight electors roll_weight
weights = (ap total_weight votes, refl)

-- an odd roll, two equal voter numbers, and numbers that fall. For a board with no words, 20 comes before 3, and after 2
pub bad-rolls : (answer (9 ∷ 5 ∷ 20 ∷ []) ≡ refused 20 0)
    × (answer (9 ∷ 5 ∷ 9 ∷ 5 ∷ []) ≡ refused 20 0)
    × (answer (9 ∷ 5 ∷ 3 ∷ 2 ∷ []) ≡ refused 20 0)
    × (audit toy [] [] (9 ∷ []) 10240 1224 ≡ refused 20 0)
    × (audit toy [] [] (9 ∷ 5 ∷ []) 10240 1224 ≡ refused 3 0)
    × (audit toy [] [] (9 ∷ []) 10239 1224 ≡ unread 2)
unfolding election words_in words_of hashed electors rising is_bad_roll audit
bad-rolls = (refl, refl, refl, refl, refl, refl)

-- a roll without the voter, with another weight, with that weight for another voter, and the empty one: the five items before the session
-- pass. Genesis alone needs no voter
pub not-on-roll : (answer (3 ∷ 2 ∷ 20 ∷ 0 ∷ []) ≡ refused 21 5)
    × (answer (9 ∷ 6 ∷ []) ≡ refused 21 5)
    × (answer (5 ∷ 9 ∷ 9 ∷ 2 ∷ 20 ∷ 5 ∷ []) ≡ refused 21 5)
    × (answer [] ≡ refused 21 5)
    × (items-in (answer_of (take 1 election) []) ≡ 1)
unfolding election words_in verdicts_in words_of hashed if◌then◌otherwise◌ ◌⇒◌ part any count keep latest ones_in kind_of code_of count_of same_words pair low_zero bit in_words size every_below all_in item_length item_at row_of row_in table fits entry first_from last_from main_item end_after end_address parent_number session_number entry_of place_of history vote_of counted contents address_ok previous_ok parent_ok time_ok rounds is_open extraction_ok open_ok standing_ok latest_ok intent_ok spoiled_ok phase_ok on_board_ok under_parent_ok under_ballot_ok only_ok contests_ok may_vote cryptograms_ok genesis_ok traits_known contest_ok threshold_ok authorizer_ok round_ok session_ok commitment_ok ballot_ok fingerprint_ok trustees_ok content_ok electors rising is_bad_roll on_roll on_roll_ok opening key_of verdict_ok key_ok signature_ok first_unmet checks fault_in head_fault closing judged word_at reading audit items-in
not-on-roll = (refl, refl, refl, refl, refl)

-- the items up to the session, and a second one: of the voter with the same weight, with another weight, and of another voter; with a weight
-- of 0, as the roll has it, 13 comes first
abbrev second : ℕ → ℕ → Outcome
second voter weight =
    answer_of (take 6 election ++ (item 0x10100013 (voter ∷ weight ∷ key 4 ++ key 0 ++ (1 ∷ [])) 5 6 7 by 3 ∷ [])) (3 ∷ 2 ∷ 9 ∷ 5 ∷ 20 ∷ 0 ∷ [])

pub two-sessions : (items-in (second 9 5) ≡ 7) × (second 9 2 ≡ refused 21 6) × (items-in (second 3 2) ≡ 7) × (second 20 0 ≡ refused 13 6)
unfolding election words_in verdicts_in words_of hashed if◌then◌otherwise◌ ◌⇒◌ part any count keep latest ones_in kind_of code_of count_of same_words pair low_zero bit in_words size every_below all_in item_length item_at row_of row_in table fits entry first_from last_from main_item end_after end_address parent_number session_number entry_of place_of history vote_of counted contents address_ok previous_ok parent_ok time_ok rounds is_open extraction_ok open_ok standing_ok latest_ok intent_ok spoiled_ok phase_ok on_board_ok under_parent_ok under_ballot_ok only_ok contests_ok may_vote cryptograms_ok genesis_ok traits_known contest_ok threshold_ok authorizer_ok round_ok session_ok commitment_ok ballot_ok fingerprint_ok trustees_ok content_ok electors rising is_bad_roll on_roll on_roll_ok opening key_of verdict_ok key_ok signature_ok first_unmet checks fault_in head_fault closing judged word_at reading audit items-in
two-sessions = (refl, refl, refl, refl)
