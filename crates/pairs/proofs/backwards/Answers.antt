-- `backwards` meets its contract. The loop's invariant: what is sought from (a, b) on is what is sought from the present pair on.
-- Assumes nothing.
use Prim.Native.Nat.{◌-◌}
use native.Mathlib.Omega.{arith}
use mathlib.Core.Path.{sym, ◌∙◌}
use Rattle.index.proofs.Had.{kept-had}
use Rattle.pairs.proofs.Walk.{mains-few, backwards-ends, backwards-differ, backwards-goes}
use Rattle.pairs.proofs.backwards.Goals as goal

pub overflow_cast-result : goal.overflow_cast-result
overflow_cast-result c = omega (arith, c.requires.a_in, mains-few (kept-had c.args.kept.now.kept))

pub overflow_cast-result-then-not-same_pair : goal.overflow_cast-result-then-not-same_pair
overflow_cast-result-then-not-same_pair c = omega (arith, c.requires.b_in, mains-few (kept-had c.args.later.now.kept))

pub returns-then-not-same_pair : goal.returns-then-not-same_pair
returns-then-not-same_pair c =
    let differ = backwards-differ _ _ (c.args.a - c.loop-k.k) (c.args.b - c.loop-k.k) (omega arith) (omega arith) in
    differ c.same_pair.ensures c.if-not-same_pair.true ∙ sym c.loop-k.invariant

pub loop-k-preserved : goal.loop-k-preserved
loop-k-preserved c =
    c.loop-k.invariant
    ∙ backwards-goes _ _ (c.args.a - c.loop-k.k) (c.args.b - c.loop-k.k) (omega arith) (omega arith) c.same_pair.ensures c.if-not-same_pair.false (omega arith) (omega arith)

pub returns : goal.returns
returns c =
    backwards-ends _ _ (c.args.a - c.loop-k.k) (c.args.b - c.loop-k.k) (omega (arith, c.min-k-end.ensures)) ∙ sym c.loop-k.invariant
