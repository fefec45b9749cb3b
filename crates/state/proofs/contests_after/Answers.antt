-- `contests_after` meets its contract. Assumes nothing.
use mathlib.Core.Path.{◌∙◌}
use native.Mathlib.Omega.{arith}
use Rattle.index.proofs.Had.{passing-had}
use Rattle.state.proofs.Next.{contest-number}
use Rattle.state.proofs.Step.{contests-new, contests-old}
use Rattle.state.proofs.contests_after.Goals as goal

pub offset_bounds-addition-item : goal.offset_bounds-addition-item
offset_bounds-addition-item c = let number = contest-number (passing-had c.args.addition.now.passing) c.if-item-eq-CONTEST.true in omega arith

pub bounds-addition-item : goal.bounds-addition-item
bounds-addition-item c = (contest-number (passing-had c.args.addition.now.passing) c.if-item-eq-CONTEST.true).0

pub with-requires : goal.with-requires
with-requires c = (contest-number (passing-had c.args.addition.now.passing) c.if-item-eq-CONTEST.true).2

pub returns-then-item-eq-CONTEST : goal.returns-then-item-eq-CONTEST
returns-then-item-eq-CONTEST c k l = c.with.ensures k l ∙ contests-new (passing-had c.args.addition.now.passing) k _ c.if-item-eq-CONTEST.true

pub returns : goal.returns
returns c k l = contests-old (passing-had c.args.addition.now.passing) k _ c.if-item-eq-CONTEST.false
