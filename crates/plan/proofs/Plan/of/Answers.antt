-- `Plan::of` meets its contract. Assumes nothing.
use mathlib.Core.Path.{sym, ◌∙◌}
use Rattle.std.specs.Prelude.{Err}
use Rattle.plan.proofs.Reading.{refused-plan, plan-large, plan-empty}
use Rattle.plan.proofs.Plan.of.Goals as goal

pub returns-then-board-gt-WORDS : goal.returns-then-board-gt-WORDS
returns-then-board-gt-WORDS c =
    let board = c.args.board.now in
    plan-large board (Err c.after.result) c.if-board-gt-WORDS.true (refused-plan board c.after.ensures)

pub returns-then-is_empty : goal.returns-then-is_empty
returns-then-is_empty c =
    let board = c.args.board.now in
    plan-empty board (Err c.after-then-is_empty.result) c.if-board-gt-WORDS.false (sym c.is_empty.ensures ∙ c.if-is_empty.true) (refused-plan board c.after-then-is_empty.ensures)

pub read-requires : goal.read-requires
read-requires c = (c.if-board-gt-WORDS.false, sym c.is_empty.ensures ∙ c.if-is_empty.false)
