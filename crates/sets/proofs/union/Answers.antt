-- `union` meets its contract: the first k words are joined. Assumes nothing.
use native.Mathlib.Omega.{arith}
use lib.ListN.{length-set}
use Rattle.sets.proofs.Sets.{joined-none, joined-next}
use borrow.Author.Rules.{rules}
use Rattle.sets.proofs.union.Goals as goal

pub loop-k-init : goal.loop-k-init
loop-k-init c = (search rules, joined-none c.args.set c.args.more.now)

pub loop-k-preserved : goal.loop-k-preserved
loop-k-preserved c =
    let x = c.args in
    let k = c.loop-k in
    (rw length-set k.invariant.0, joined-next x.set x.more.now k.words k.k (omega arith) (omega arith) (omega arith) k.invariant.1)
