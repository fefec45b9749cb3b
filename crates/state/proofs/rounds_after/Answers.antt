-- `rounds_after` meets its contract. Assumes nothing.
use native.Mathlib.Omega.{arith}
use mathlib.Core.Path.{refl}
use borrow.Author.Rules.{rules}
use Rattle.index.proofs.Had.{passing-had}
use Rattle.state.proofs.Next.{round-number}
use Rattle.state.proofs.Step.{slot-new, slot-old}
use Rattle.state.proofs.rounds_after.Goals as goal

pub offset_bounds-addition-item : goal.offset_bounds-addition-item
offset_bounds-addition-item c = let number = round-number (passing-had c.args.addition.now.passing) c.if-item-eq-ROUND.true in omega arith

pub bounds-addition-item : goal.bounds-addition-item
bounds-addition-item c = (round-number (passing-had c.args.addition.now.passing) c.if-item-eq-ROUND.true).0

pub bounds-slots-addition : goal.bounds-slots-addition
bounds-slots-addition c = let number = round-number (passing-had c.args.addition.now.passing) c.if-item-eq-ROUND.true in omega arith

pub returns-then-item-eq-ROUND : goal.returns-then-item-eq-ROUND
returns-then-item-eq-ROUND c = slot-new (passing-had c.args.addition.now.passing) c.args.rounds _ c.if-item-eq-ROUND.true (search rules) refl

pub returns-else-item-eq-ROUND : goal.returns-else-item-eq-ROUND
returns-else-item-eq-ROUND c = slot-old (passing-had c.args.addition.now.passing) c.args.rounds c.if-item-eq-ROUND.false
