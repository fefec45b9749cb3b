-- An election with sets of eight words, under toy hashes, whose audit is computed: it is accepted; and with one thing changed it is refused for
-- that. Contests 33 and 255 stand in the second word of a set and in the last. Paper: request (v). Assumes nothing.
use Prim.Native.Nat.{ℕ, ◌+◌, ◌-◌, ◌*◌}
use mathlib.Core.Path.{◌≡◌, refl}
use mathlib.Core.List.{List, [], ◌∷◌, ◌++◌}
use lib.ListN.{replicate}
use lib.Count.{ones_in}
use Rattle.model.specs.Lists.{if◌then◌otherwise◌, ◌⇒◌, part, any, count, keep, latest}
use Rattle.model.specs.Words.{kind_of, code_of, count_of, same_words, pair, low_zero, bit, in_words, size, every_below, all_in}
use Rattle.model.specs.Format.{Curve, secp256r1}
use Rattle.model.specs.Traits.{traits_known, traits_of, set_words, curve_of}
use Rattle.model.specs.Item.{item_length, item_at, hashed, words_of}
use Rattle.model.specs.Types.{row_of, row_in, table, fits}
use Rattle.model.specs.History.{entry, first_from, last_from, main_item, end_after, end_address, parent_number, session_number, entry_of, place_of, history}
use Rattle.model.specs.Counted.{vote_of, counted, contents}
use Rattle.model.specs.Links.{address_ok, previous_ok, parent_ok, time_ok}
use Rattle.model.specs.Phase.{rounds, is_open, extraction_ok, open_ok, standing_ok, latest_ok, intent_ok, spoiled_ok, phase_ok}
use Rattle.model.specs.Only.{on_board_ok, under_parent_ok, under_ballot_ok, only_ok}
use Rattle.model.specs.Content.{contests_ok, may_vote, cryptograms_ok, genesis_ok, contest_ok, threshold_ok, authorizer_ok, round_ok, session_ok, commitment_ok, ballot_ok, fingerprint_ok, trustees_ok, content_ok}
use Rattle.model.specs.Roll.{electors, rising, is_bad_roll, on_roll, on_roll_ok}
use Rattle.model.specs.Keys.{opening, key_of, verdict_ok, key_ok, signature_ok}
use Rattle.model.specs.Audit.{Outcome, refused, first_unmet, checks, fault_in, head_fault, closing, judged, word_at, reading, audit}
use Rattle.samples.proofs.SampleElection.{Signed, ◌by◌, item_on, key, words_in, verdicts_in, own_answer, items-in}

-- contests 33 and 255: bit 1 of word 1, and bit 31 of word 7; contest 33 alone; contests 1 and 31
abbrev both : List ℕ
both = 0 ∷ 2 ∷ 0 ∷ 0 ∷ 0 ∷ 0 ∷ 0 ∷ 0x80000000 ∷ []

abbrev one : List ℕ
one = 0 ∷ 2 ∷ 0 ∷ 0 ∷ 0 ∷ 0 ∷ 0 ∷ 0 ∷ []

abbrev low : List ℕ
low = 0x80000002 ∷ 0 ∷ 0 ∷ 0 ∷ 0 ∷ 0 ∷ 0 ∷ 0 ∷ []

-- up to the authorizer: the curve, the traits, and the number of the second contest
abbrev config : Curve → ℕ → ℕ → List Signed
config c traits number =
    let write = item_on c in
    write 0x10010012 (7 ∷ key 1 ++ key 2 ++ (traits ∷ [])) 0 0 1 by 1
    ∷ write 0x10030001 (33 ∷ []) 1 1 2 by 1
    ∷ write 0x10030001 (number ∷ []) 2 2 3 by 1
    ∷ write 0x1004000A (1 ∷ 1 ∷ key 0) 3 3 4 by 1
    ∷ write 0x10050009 (1 ∷ key 3) 4 4 5 by 1
    ∷ []

-- up to a cast: the contests of the round, of the session, and of the ballot with its two cryptograms
abbrev vote : Curve → List ℕ → List ℕ → List ℕ → List Signed
vote c round session ballot =
    let write = item_on c in
    let commitment = replicate {A = ℕ} c.commitment 0 in
    let cryptogram = replicate {A = ℕ} (c.cryptogram - 1) 6 in
    write 0x1006000D (0 ∷ round ++ (0 ∷ 0 ∷ 0 ∷ 100 ∷ [])) 5 5 6 by 1
    ∷ write 0x1010001A (9 ∷ 5 ∷ key 4 ++ key 0 ++ session) 6 6 7 by 3
    ∷ write (0x10110000 + c.commitment) commitment 7 7 8 by 4
    ∷ write (0x10120000 + c.commitment) commitment 8 8 9 by 2
    ∷ write (0x10130008 + 2 * c.cryptogram) (ballot ++ cryptogram ++ (0x70000 ∷ cryptogram) ++ (0x80000 ∷ [])) 9 9 10 by 4
    ∷ write 0x10140000 [] 10 10 11 by 4
    ∷ []

-- the whole of it, on any curve
unfoldable pub wide_on : Curve → ℕ → List Signed
wide_on c traits = config c traits 255 ++ vote c both both both

-- it is accepted with all its items
pub wide-accepted : items-in (own_answer (wide_on secp256r1 1)) ≡ 11
unfolding wide_on traits_of set_words curve_of words_in verdicts_in words_of hashed if◌then◌otherwise◌ ◌⇒◌ part any count keep latest ones_in kind_of code_of count_of same_words pair low_zero bit in_words size every_below all_in item_length item_at row_of row_in table fits entry first_from last_from main_item end_after end_address parent_number session_number entry_of place_of history vote_of counted contents address_ok previous_ok parent_ok time_ok rounds is_open extraction_ok open_ok standing_ok latest_ok intent_ok spoiled_ok phase_ok on_board_ok under_parent_ok under_ballot_ok only_ok contests_ok may_vote cryptograms_ok genesis_ok traits_known contest_ok threshold_ok authorizer_ok round_ok session_ok commitment_ok ballot_ok fingerprint_ok trustees_ok content_ok electors rising is_bad_roll on_roll on_roll_ok opening key_of verdict_ok key_ok signature_ok first_unmet checks fault_in head_fault closing judged word_at reading audit items-in
wide-accepted = refl

-- the answers on secp256r1
abbrev configured : ℕ → ℕ → Outcome
configured traits number = own_answer (config secp256r1 traits number)

abbrev voted : List ℕ → List ℕ → List ℕ → Outcome
voted round session ballot = own_answer (config secp256r1 1 255 ++ vote secp256r1 round session ballot)

-- a genesis with other trait bits is refused as 13, and one without bit 0 has sets of one word, so contest 33 is; so is contest 256
pub wide-config : (configured 8 255 ≡ refused 13 0) × (configured 0 255 ≡ refused 13 1) × (configured 1 256 ≡ refused 13 2)
unfolding wide_on traits_of set_words curve_of words_in verdicts_in words_of hashed if◌then◌otherwise◌ ◌⇒◌ part any count keep latest ones_in kind_of code_of count_of same_words pair low_zero bit in_words size every_below all_in item_length item_at row_of row_in table fits entry first_from last_from main_item end_after end_address parent_number session_number entry_of place_of history vote_of counted contents address_ok previous_ok parent_ok time_ok rounds is_open extraction_ok open_ok standing_ok latest_ok intent_ok spoiled_ok phase_ok on_board_ok under_parent_ok under_ballot_ok only_ok contests_ok may_vote cryptograms_ok genesis_ok traits_known contest_ok threshold_ok authorizer_ok round_ok session_ok commitment_ok ballot_ok fingerprint_ok trustees_ok content_ok electors rising is_bad_roll on_roll on_roll_ok opening key_of verdict_ok key_ok signature_ok first_unmet checks fault_in head_fault closing judged word_at reading audit items-in
wide-config = (refl, refl, refl)

-- and so are contests that are not defined, that the session does not have, or that no round enables: the same bits of another word, or the last word's
pub wide-sets : (voted low both both ≡ refused 13 5) × (voted both low both ≡ refused 13 6)
    × (voted both one both ≡ refused 13 9) × (voted one both both ≡ refused 13 9)
    -- a ballot with fewer contests than cryptograms
    × (voted both both one ≡ refused 13 9)
unfolding wide_on traits_of set_words curve_of words_in verdicts_in words_of hashed if◌then◌otherwise◌ ◌⇒◌ part any count keep latest ones_in kind_of code_of count_of same_words pair low_zero bit in_words size every_below all_in item_length item_at row_of row_in table fits entry first_from last_from main_item end_after end_address parent_number session_number entry_of place_of history vote_of counted contents address_ok previous_ok parent_ok time_ok rounds is_open extraction_ok open_ok standing_ok latest_ok intent_ok spoiled_ok phase_ok on_board_ok under_parent_ok under_ballot_ok only_ok contests_ok may_vote cryptograms_ok genesis_ok traits_known contest_ok threshold_ok authorizer_ok round_ok session_ok commitment_ok ballot_ok fingerprint_ok trustees_ok content_ok electors rising is_bad_roll on_roll on_roll_ok opening key_of verdict_ok key_ok signature_ok first_unmet checks fault_in head_fault closing judged word_at reading audit items-in
wide-sets = (refl, refl, refl, refl, refl)
