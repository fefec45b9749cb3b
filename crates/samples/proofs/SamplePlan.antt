-- The plans of sample elections, on all three curves, and of boards with one thing changed: planned, refused as the audit does, and planned where the
-- audit refuses. So what is proved of plans is proved of boards that are planned and of boards that are not. Paper: request (x). Assumes nothing.
use Prim.Native.Nat.{ℕ, ◌*◌}
use mathlib.Core.Path.{◌≡◌, refl}
use mathlib.Core.List.{[], ◌∷◌, ◌++◌}
use lib.ListN.{take}
use Rattle.sha256_block.specs.Fips as sha256
use Rattle.sha512_block.specs.Fips as sha512
use Rattle.model.specs.Lists.{if◌then◌otherwise◌, part}
use Rattle.model.specs.Words.{kind_of, code_of, count_of, closing_word}
use Rattle.model.specs.Format.{secp256r1, secp384r1, secp521r1}
use Rattle.model.specs.Traits.{traits_known, traits_of, set_words, curve_of}
use Rattle.model.specs.Item.{item_length, hashed_length, item_at, hashed, words_of}
use Rattle.model.specs.Types.{row_of, row_in, table, fits}
use Rattle.model.specs.History.{entry_of}
use Rattle.model.specs.Audit.{head_fault, closing, judged, word_at, reading}
use Rattle.planning.specs.Plan.{heads_read, hash_on, blocks_for, Plan, sum_of, plan_of, plan}
use Rattle.samples.proofs.SampleElection.{election, words_in, board_of, board}
use Rattle.samples.proofs.SampleWide.{wide_on}
use Rattle.samples.proofs.SampleCurves.{on, larger, largest, commitments, ending}

-- so many items, five words of the index table for each, and so many blocks
abbrev planned : ℕ → ℕ → Plan
planned items blocks = record { number = 0; items = items; index_words = 5 * items; blocks = blocks }

abbrev refusal : ℕ → ℕ → Plan
refusal n k = record { number = n; items = k; index_words = 0; blocks = 0 }

-- ---- sound boards

-- the blocks of 64 bytes, and of 128 bytes on the larger curves
pub plans : (plan board ≡ planned 21 47) × (plan (board_of larger) ≡ planned 21 38) × (plan (board_of largest) ≡ planned 21 44)
unfolding election heads_read hash_on blocks_for sum_of plan_of traits_of traits_known set_words curve_of words_in words_of hashed if◌then◌otherwise◌ part kind_of code_of count_of item_length hashed_length item_at row_of row_in table fits entry_of head_fault closing judged word_at reading sha256.padding sha256.zero_bits sha256.length_field sha512.padding sha512.zero_bits sha512.length_field sha512.to_halves
plans = (refl, refl, refl)

-- sets of eight words, on each curve
pub wide-plans : (plan (board_of (wide_on secp256r1 1)) ≡ planned 11 27) × (plan (board_of (wide_on secp384r1 3)) ≡ planned 11 22)
    × (plan (board_of (wide_on secp521r1 5)) ≡ planned 11 25)
unfolding wide_on election heads_read hash_on blocks_for sum_of plan_of traits_of traits_known set_words curve_of words_in words_of hashed if◌then◌otherwise◌ part kind_of code_of count_of item_length hashed_length item_at row_of row_in table fits entry_of head_fault closing judged word_at reading sha256.padding sha256.zero_bits sha256.length_field sha512.padding sha512.zero_bits sha512.length_field sha512.to_halves
wide-plans = (refl, refl, refl)

-- ---- one thing changed

-- 3, of no words and of a closing word alone; 4, without a closing word and with an item cut off; 18, with another number and with a word behind it;
-- 5, of kind 3, behind the items
pub refusals : (plan [] ≡ refusal 3 0) × (plan (closing_word 0 ∷ []) ≡ refusal 3 0) × (plan (words_in larger) ≡ refusal 4 21)
    × (plan (take 1000 (board_of larger)) ≡ refusal 4 13) × (plan (words_in larger ++ (closing_word 20 ∷ [])) ≡ refusal 18 21)
    × (plan (board_of larger ++ (0 ∷ [])) ≡ refusal 18 21) × (plan (words_in larger ++ (0x30000000 ∷ [])) ≡ refusal 5 21)
unfolding election heads_read hash_on blocks_for sum_of plan_of traits_of traits_known set_words curve_of words_in words_of hashed if◌then◌otherwise◌ part kind_of code_of count_of item_length hashed_length item_at row_of row_in table fits entry_of head_fault closing judged word_at reading sha256.padding sha256.zero_bits sha256.length_field sha512.padding sha512.zero_bits sha512.length_field sha512.to_halves
refusals = (refl, refl, refl, refl, refl, refl, refl)

-- 6, where the audit has it, too (`other-widths`)
pub alike : (plan (board_of (on (commitments 9 secp384r1) 2)) ≡ refusal 6 6) × (plan (board_of (on (commitments 13 secp521r1) 4)) ≡ refusal 6 6)
unfolding election heads_read hash_on blocks_for sum_of plan_of traits_of traits_known set_words curve_of words_in words_of hashed if◌then◌otherwise◌ part kind_of code_of count_of item_length hashed_length item_at row_of row_in table fits entry_of head_fault closing judged word_at reading sha256.padding sha256.zero_bits sha256.length_field sha512.padding sha512.zero_bits sha512.length_field sha512.to_halves
alike = (refl, refl)

-- traits that give 13: they are read with today's widths, so a board that has them is planned
pub unknown-traits : (plan (board_of (on secp256r1 6)) ≡ planned 21 47) × (plan (board_of (on secp256r1 8)) ≡ planned 21 47)
unfolding election heads_read hash_on blocks_for sum_of plan_of traits_of traits_known set_words curve_of words_in words_of hashed if◌then◌otherwise◌ part kind_of code_of count_of item_length hashed_length item_at row_of row_in table fits entry_of head_fault closing judged word_at reading sha256.padding sha256.zero_bits sha256.length_field sha512.padding sha512.zero_bits sha512.length_field sha512.to_halves
unknown-traits = (refl, refl)

-- what only the audit refuses, by 13 after 6 items (`low_bits`); so does it `larger` with a verdict word left over, by 18 after all (`left_over`)
pub later : (plan (board_of (ending secp384r1 2 0x800000 0x80000)) ≡ planned 21 38) × (plan (board_of (ending secp521r1 4 0x80 0x80000)) ≡ planned 21 44)
unfolding election heads_read hash_on blocks_for sum_of plan_of traits_of traits_known set_words curve_of words_in words_of hashed if◌then◌otherwise◌ part kind_of code_of count_of item_length hashed_length item_at row_of row_in table fits entry_of head_fault closing judged word_at reading sha256.padding sha256.zero_bits sha256.length_field sha512.padding sha512.zero_bits sha512.length_field sha512.to_halves
later = (refl, refl)
