-- The checked ballot of the sample election: opened beside a cast, opened before its spoil, and spoiled first. Paper: request (iv).
-- Assumes nothing.
use Prim.Native.Nat.{ℕ}
use mathlib.Core.Path.{◌≡◌, refl}
use mathlib.Core.List.{List, [], ◌∷◌, ◌++◌}
use lib.ListN.{take}
use lib.Count.{ones_in}
use Rattle.model.specs.Lists.{if◌then◌otherwise◌, ◌⇒◌, part, any, count, keep, latest}
use Rattle.model.specs.Words.{kind_of, code_of, count_of, same_words, pair, low_zero, bit, in_words, size, every_below, all_in}
use Rattle.model.specs.Traits.{traits_known}
use Rattle.model.specs.Item.{Item, item_length, item_at, hashed, words_of}
use Rattle.model.specs.Types.{row_of, row_in, table, fits}
use Rattle.model.specs.History.{entry, first_from, last_from, main_item, end_after, end_address, parent_number, session_number, entry_of, place_of, history}
use Rattle.model.specs.Counted.{vote_of, counted, contents}
use Rattle.model.specs.Links.{address_ok, previous_ok, parent_ok, time_ok}
use Rattle.model.specs.Phase.{rounds, is_open, extraction_ok, open_ok, standing_ok, latest_ok, intent_ok, spoiled_ok, phase_ok}
use Rattle.model.specs.Only.{on_board_ok, under_parent_ok, under_ballot_ok, only_ok}
use Rattle.model.specs.Content.{contests_ok, may_vote, cryptograms_ok, genesis_ok, contest_ok, threshold_ok, authorizer_ok, round_ok, session_ok, commitment_ok, ballot_ok, fingerprint_ok, trustees_ok, content_ok}
use Rattle.model.specs.Roll.{electors, rising, is_bad_roll, on_roll, on_roll_ok}
use Rattle.model.specs.Keys.{opening, key_of, verdict_ok, key_ok, signature_ok}
use Rattle.model.specs.Audit.{Outcome, refused, first_unmet, checks, fault_in, head_fault, closing, judged, word_at, reading, audit, index_need, ballot_need}
use Rattle.samples.proofs.SampleElection.{Signed, ◌by◌, item, toy, election, words_in, verdicts_in, board_of, roll, items-in}

abbrev outcome : List Signed → Outcome
outcome ss = audit toy (board_of ss) (verdicts_in ss) roll index_need ballot_need

-- the election up to the verifier of the ballot 9, item 11, and two items more, of the voter
abbrev checked : Item → Item → Outcome
checked i j = outcome (take 11 election ++ (i by 4 ∷ j by 4 ∷ []))

-- the ballot's cast and spoil, and its opening, with their times
abbrev cast : ℕ → Item
cast = item 0x10140000 [] 9 9

abbrev spoil : ℕ → Item
spoil = item 0x10150000 [] 9 9

abbrev opened : ℕ → Item
opened = item 0x20320001 (0 ∷ []) 11 11

-- an opening beside a cast is out of phase, and so is one before its spoil. After its spoil it passes, also with an earlier time than
-- the spoil's
pub track-answers : (checked (cast 12) (opened 13) ≡ refused 11 12) × (checked (opened 12) (spoil 13) ≡ refused 11 11)
    × (items-in (checked (spoil 12) (opened 13)) ≡ 13) × (items-in (checked (spoil 13) (opened 12)) ≡ 13)
unfolding election words_in verdicts_in words_of hashed if◌then◌otherwise◌ ◌⇒◌ part any count keep latest ones_in kind_of code_of count_of same_words pair low_zero bit in_words size every_below all_in item_length item_at row_of row_in table fits entry first_from last_from main_item end_after end_address parent_number session_number entry_of place_of history vote_of counted contents address_ok previous_ok parent_ok time_ok rounds is_open extraction_ok open_ok standing_ok latest_ok intent_ok spoiled_ok phase_ok on_board_ok under_parent_ok under_ballot_ok only_ok contests_ok may_vote cryptograms_ok genesis_ok traits_known contest_ok threshold_ok authorizer_ok round_ok session_ok commitment_ok ballot_ok fingerprint_ok trustees_ok content_ok electors rising is_bad_roll on_roll on_roll_ok opening key_of verdict_ok key_ok signature_ok first_unmet checks fault_in head_fault closing judged word_at reading audit items-in
track-answers = (refl, refl, refl, refl)
