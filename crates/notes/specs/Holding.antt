-- Whole notes of a board's width, and what is found of them, as the model names it. Paper: request (vi). Assumes nothing.
use Rattle.std.specs.Prelude.{ℕ, ◌*◌, ◌≤◌, ◌≡◌, List, length, Result, Ok, Err}
use Rattle.std.proofs.Math.Option.{Option, none, some}
use Rattle.watch.specs.Notes as model
use Rattle.watch.specs.Notes.{note_limit, note_size, note_count}
use Rattle.format.specs.Format.{format_of}
use Rattle.notes.specs.declared.Disagreement.{Disagreement}
use Rattle.notes.specs.declared.Disagreement.TheVariants.{NoMainItem, OutOfOrder, TooEarly}
use Rattle.notes.specs.declared.Disagrees.{Disagrees}

-- whole notes of a board's width, not too many
pub record Whole (board notes : List ℕ) : Type 0 where
  pub whole : length notes ≡ note_count (format_of board) notes * note_size (format_of board)
  pub few : note_count (format_of board) notes ≤ note_limit

-- what is wrong with a note
abbrev pub way_of : Disagreement → model.Disagreement
way_of NoMainItem = model.no_main_item
way_of OutOfOrder = model.out_of_order
way_of TooEarly = model.too_early

abbrev pub found : Result Unit Disagreement → Option model.Disagreement
found (Ok _) = none
found (Err d) = some (way_of d)

abbrev pub agreement_of : Result Unit Disagrees → model.Agreement
agreement_of (Ok _) = model.all_agree
agreement_of (Err d) = model.disagrees d.note (way_of d.disagreement)
