-- `has_child` meets its contract. The loop's invariant: there is a child where there is one from the present item on; before its
-- parent there is none. Assumes nothing.
use Prim.Native.Nat.{◌+◌}
use native.Mathlib.Omega.{arith}
use mathlib.Core.Path.{sym, ◌∙◌}
use lib.Dec.{eqb}
use Rattle.index.proofs.Had.{kept-had}
use Rattle.lookup.proofs.Steps.{any-stops, any-goes, any-ends}
use Rattle.lookup.proofs.Children.{begin-some, begin-all}
use borrow.Author.Rules.{rules}
use Rattle.lookup.proofs.has_child.Goals as goal

pub loop-child-init : goal.loop-child-init
loop-child-init c =
    let a = c.args in
    rw c.max-child.ensures (begin-some a.parent, begin-all (kept-had a.passed.now.kept) a.parent (λ x. eqb x a.code))

pub returns-then-is_child : goal.returns-then-is_child
returns-then-is_child c =
    let l = c.loop-child in
    sym (l.invariant.1 ∙ any-stops _ _ _ l.child l.invariant.0 c.loop-child-test.true _ c.is_child.ensures c.if-is_child.true)

pub loop-child-preserved : goal.loop-child-preserved
loop-child-preserved c =
    let l = c.loop-child in
    (search rules, l.invariant.1 ∙ any-goes _ _ _ l.child l.invariant.0 c.loop-child-test.true _ c.is_child.ensures c.if-is_child.false)

pub returns-else-is_child : goal.returns-else-is_child
returns-else-is_child c =
    let l = c.loop-child in
    let goes = any-goes _ _ _ l.child l.invariant.0 c.loop-child-test.true _ c.is_child.ensures c.if-is_child.false in
    sym (l.invariant.1 ∙ goes ∙ any-ends _ _ _ (l.child + 1) (omega arith))

pub returns : goal.returns
returns c = let l = c.loop-child in sym (l.invariant.1 ∙ any-ends _ _ _ l.child c.loop-child-test.false)
