-- `close` meets its contract. Assumes nothing.
use Rattle.std.specs.Prelude.{Err}
use Rattle.plan.proofs.Reading.{refused-plan, close-bad, close-good}
use mathlib.Core.Path.{ap}
use mathlib.Core.Bool.{not}
use Rattle.plan.proofs.close.Goals as goal

pub returns-then-not-is_closed : goal.returns-then-not-is_closed
returns-then-not-is_closed c =
    let x = c.args in
    close-bad x.board.now x.s c.is_closed.ensures (ap not c.if-not-is_closed.true) (Err c.after.result) (refused-plan x.board.now c.after.ensures)

pub returns : goal.returns
returns c =
    close-good c.args.board.now c.args.s c.is_closed.ensures (ap not c.if-not-is_closed.false)
    c.requires.0
