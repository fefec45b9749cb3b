-- `is_empty` meets its contract. Assumes nothing.
use Rattle.format.proofs.Ends.{empty-none, empty-first}
use Rattle.format.proofs.board.is_empty.Goals as goal

pub returns-then-board-eq0 : goal.returns-then-board-eq0
returns-then-board-eq0 c = empty-none c.args.board.now c.if-board-eq0.true

pub returns : goal.returns
returns c = empty-first c.args.board.now c.if-board-eq0.false _ c.of.ensures
