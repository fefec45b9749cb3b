-- `only::on_board_ok` meets its contract. Assumes nothing.
use Rattle.phases.proofs.Once.{board-genesis, board-threshold, board-other}
use borrow.Author.Rules.{rules}
use Rattle.state.proofs.Had.{at-had}
use Rattle.phases.proofs.only.on_board_ok.Goals as goal

pub returns-in-1 : goal.returns-in-1
returns-in-1 c = board-genesis (at-had c.args.next.now.at_item) c.in-1.is

pub returns-in-4 : goal.returns-in-4
returns-in-4 c = board-threshold (at-had c.args.next.now.at_item) c.in-4.is

pub returns-in_default : goal.returns-in_default
returns-in_default c = board-other (at-had c.args.next.now.at_item) (search rules) (search rules)
