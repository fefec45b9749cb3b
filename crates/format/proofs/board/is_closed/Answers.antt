-- `is_closed` meets its contract. Assumes nothing.
use Rattle.format.proofs.Ends.{closed-number, closed-alone}
use Rattle.format.proofs.board.is_closed.Goals as goal

pub returns-then-number-items : goal.returns-then-number-items
returns-then-number-items c = let x = c.args in closed-alone x.board.now x.items x.place c.if-number-items.true

pub returns-else-number-items : goal.returns-else-number-items
returns-else-number-items c = let x = c.args in closed-number x.board.now x.items x.place c.if-number-items.false
