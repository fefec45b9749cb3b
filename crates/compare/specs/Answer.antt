-- The answer of comparing two boards, as the model names it, and what is known of a board that was accepted.
-- Paper: "Comparing takes a kept board". Assumes nothing.
use Rattle.std.specs.Prelude.{ℕ, ◌≤◌, ◌≡◌, List, Result, Ok, Err}
use Rattle.model.specs.Lists.{count}
use Rattle.model.specs.History.{main}
use Rattle.model.specs.Comparing.{ComparingAnswer, kept_board, later_board, refused_board, compared}
use Rattle.model.specs.Comparing as comparing
use Rattle.refusal.specs.Number.{number_of}
use Rattle.index.specs.Kept.{before, Kept}
use Rattle.pairs.specs.Agreement.{agreement_of}
use Rattle.pairs.specs.declared.Agreement.{Agreement}
use Rattle.compare.specs.declared.Board.{Board}
use Rattle.compare.specs.declared.Board.TheVariants as board
use Rattle.compare.specs.declared.RefusedBoard.{RefusedBoard}

abbrev pub board_of : Board → comparing.Board
board_of board.Kept = kept_board
board_of board.Later = later_board

abbrev pub answer_of : Result Agreement RefusedBoard → ComparingAnswer
answer_of (Ok a) = compared (agreement_of a)
answer_of (Err r) = refused_board (board_of r.board) (number_of r.refused.refusal) r.refused.items

-- the first n items of the board pass, the index table holds their rows, and m of them are main items
pub record Accepted (board index : List ℕ) (n m : ℕ) : Type 0 where
  pub kept : Kept board index n
  pub mains : m ≡ count main (before board n)
  pub opened : 1 ≤ m
