-- `climb` meets its contract, by recursion on the item number. Assumes nothing.
use native.Mathlib.Omega.{arith}
use lib.ListN.{length-set, length-take, length-drop}
use Rattle.index.proofs.Had.{kept-had}
use Rattle.climb.proofs.Steps.{ancestry-few, climb-less, climb-ends, climb-goes}
use Rattle.climb.proofs.+climb.Goals as goal

pub overflow_cast-list : goal.overflow_cast-list
overflow_cast-list t c = omega (arith, (kept-had c.args.passed.now.kept).few)

pub returns-then-parent-number : goal.returns-then-parent-number
returns-then-parent-number t c =
    let a = c.args in
    let r = c.requires in
    let ends = climb-ends (kept-had a.passed.now.kept) a.number r.0 r.1 _ c.parent-parent.ensures a.list.now c.if-parent-number.true in
    record { answer = ends.0; list = ends.1 }

pub climb-requires : goal.climb-requires
climb-requires t c =
    let a = c.args in
    let r = c.requires in
    let less = climb-less (kept-had a.passed.now.kept) a.number r.0 r.1 _ c.parent-parent.ensures a.list.now c.if-parent-number.false in
    (omega arith, (less.0, omega arith, simp (length-take, length-drop, length-set) (omega arith)))

pub overflow_add-result : goal.overflow_add-result
overflow_add-result t c =
    let a = c.args in
    let r = c.requires in
    let kept = kept-had a.passed.now.kept in
    let less = climb-less kept a.number r.0 r.1 _ c.parent-parent.ensures a.list.now c.if-parent-number.false in
    omega (arith, kept.few, c.climb.ensures.answer, ancestry-few kept less.0 (omega arith))

pub returns : goal.returns
returns t c =
    let a = c.args in
    let r = c.requires in
    let s = c.climb.ensures in
    let goes =
    climb-goes (kept-had a.passed.now.kept) a.number r.0 r.1 _ c.parent-parent.ensures a.list.now c.if-parent-number.false r.2 _ _ s.answer s.list in
    record { answer = goes.0; list = goes.1 }
