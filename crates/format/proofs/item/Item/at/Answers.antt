-- `Item::at` meets its contract. A count is below 2 ^ 16 and a format's sizes are small, so no place is past what a number holds. Assumes nothing.
use native.Mathlib.Omega.{arith}
use Rattle.format.proofs.Places.{small, laid_out}
use Rattle.format.proofs.item.Item.at.Goals as goal

pub overflow_add-parent : goal.overflow_add-parent
overflow_add-parent c = let b = small c.args.board.now c.args.place c.of-head.ensures c.of-format.ensures in omega arith

pub overflow_add-previous : goal.overflow_add-previous
overflow_add-previous c = let b = small c.args.board.now c.args.place c.of-head.ensures c.of-format.ensures in omega arith

pub overflow_add-time : goal.overflow_add-time
overflow_add-time c = let b = small c.args.board.now c.args.place c.of-head.ensures c.of-format.ensures in omega arith

pub overflow_add-signature : goal.overflow_add-signature
overflow_add-signature c = let b = small c.args.board.now c.args.place c.of-head.ensures c.of-format.ensures in omega arith

pub overflow_add-address : goal.overflow_add-address
overflow_add-address c = let b = small c.args.board.now c.args.place c.of-head.ensures c.of-format.ensures in omega arith

pub overflow_add-end : goal.overflow_add-end
overflow_add-end c = let b = small c.args.board.now c.args.place c.of-head.ensures c.of-format.ensures in omega arith

pub returns : goal.returns
returns c = laid_out c.args.board.now c.args.place _ _ c.of-head.ensures c.of-format.ensures
