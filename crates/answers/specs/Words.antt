-- The answers of the entries as words, for callers in other languages, and a buffer after they are written. Assumes nothing.
use Rattle.std.specs.Prelude.{List, [], ◌∷◌, ◌++◌, ℕ, ◌/◌, ◌%◌, ◌^◌, length, drop, Option, Some, None, Result}
use Rattle.model.specs.Report.{Report}
use Rattle.model.specs.Compare.{apart, same, collision}
use Rattle.model.specs.Comparing.{Board, kept_board, later_board, ComparingAnswer, refused_board, compared}
use Rattle.model.specs.Ancestry.{AncestryAnswer, unlisted, listed}
use Rattle.watch.specs.Notes.{Disagreement, no_main_item, out_of_order, too_early, Agreement, not_held, all_agree, disagrees}
use Rattle.planning.specs.Plan.{Plan}
use Rattle.notes.specs.Holding.{agreement_of}
use Rattle.notes.specs.declared.Disagrees.{Disagrees}

-- a buffer with the words over its first ones
abbrev pub overwritten : List ℕ → List ℕ → List ℕ
overwritten words buffer = words ++ drop (length words) buffer

-- ---- audit

-- words of the answer
abbrev pub audit_size : ℕ
audit_size = 22

-- number, items, main items, ballots, and the weight, high word first
unfoldable pub head_words : Report → List ℕ
head_words r = r.number ∷ r.items ∷ r.mains ∷ r.ballots ∷ r.weight / 2 ^ 32 ∷ r.weight % 2 ^ 32 ∷ []

-- behind those, the end address
unfoldable pub answer_words : Report → List ℕ
answer_words r = head_words r ++ r.end

-- ---- compare

abbrev pub compare_size : ℕ
compare_size = 6

-- 0 for the kept board, 1 for the later one
abbrev pub board_word : Board → ℕ
board_word kept_board = 0
board_word later_board = 1

-- kind (0 refused, 1 apart, 2 same, 3 collision), board, number, items, main number in the kept board, main number in the later one
unfoldable pub comparison_words : ComparingAnswer → List ℕ
comparison_words (refused_board b n k) = 0 ∷ board_word b ∷ n ∷ k ∷ 0 ∷ 0 ∷ []
comparison_words (compared apart) = 1 ∷ 0 ∷ 0 ∷ 0 ∷ 0 ∷ 0 ∷ []
comparison_words (compared same) = 2 ∷ 0 ∷ 0 ∷ 0 ∷ 0 ∷ 0 ∷ []
comparison_words (compared (collision kept later)) = 3 ∷ 0 ∷ 0 ∷ 0 ∷ kept ∷ later ∷ []

-- ---- ancestry

abbrev pub ancestry_size : ℕ
ancestry_size = 2

-- number, and the items passed; of acceptance 0, and how many numbers were written
unfoldable pub listing_words : AncestryAnswer → List ℕ
listing_words (unlisted n k) = n ∷ k ∷ []
listing_words (listed m) = 0 ∷ m ∷ []

-- ---- notes

abbrev pub notes_size : ℕ
notes_size = 24

-- 2 no main item, 3 out of order, 4 too early
abbrev pub way_word : Disagreement → ℕ
way_word no_main_item = 2
way_word out_of_order = 3
way_word too_early = 4

-- what the notes say, if they are held against an accepted board
abbrev pub said : Option (Result Unit Disagrees) → Agreement
said None = not_held
said (Some a) = agreement_of a

-- what the notes say (0 not held, 1 all agree, or what is wrong), and the number of the first that disagrees, else 0
unfoldable pub agreement_words : Agreement → List ℕ
agreement_words not_held = 0 ∷ 0 ∷ []
agreement_words all_agree = 1 ∷ 0 ∷ []
agreement_words (disagrees n d) = way_word d ∷ n ∷ []

-- behind the words of a report
abbrev pub held_words : Report → Agreement → List ℕ
held_words r a = answer_words r ++ agreement_words a

-- ---- export

abbrev pub export_size : ℕ
export_size = 23

-- behind the words of a report, the number of bytes that were written
abbrev pub exported_words : Report → ℕ → List ℕ
exported_words r bytes = answer_words r ++ (bytes ∷ [])

-- ---- plan

abbrev pub plan_size : ℕ
plan_size = 4

-- number, items, words of their index rows, and blocks of their addresses
unfoldable pub plan_words : Plan → List ℕ
plan_words p = p.number ∷ p.items ∷ p.index_words ∷ p.blocks ∷ []
