-- `is_closed` meets its contract. Assumes nothing.
use mathlib.Core.Path.{◌∙◌}
use Rattle.closing.proofs.Closing.{closed-word, closed-verdicts}
use Rattle.closing.proofs.is_closed.Goals as goal

pub returns-then-is_closed : goal.returns-then-is_closed
returns-then-is_closed c =
    let p = c.args.progress.now in
    closed-verdicts p.board.now c.args.verdicts.now p.state c.is_closed.ensures c.if-is_closed.true

pub returns-else-is_closed : goal.returns-else-is_closed
returns-else-is_closed c =
    let p = c.args.progress.now in
    c.if-is_closed.false ∙ closed-word p.board.now c.args.verdicts.now p.state c.is_closed.ensures c.if-is_closed.false
