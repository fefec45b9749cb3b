-- `main_entry` meets its contract. The loop's invariant: the item sought is main item number left of those from item k on. Assumes nothing.
use Prim.Native.Nat.{◌+◌, ◌≤◌}
use native.Mathlib.Omega.{arith}
use mathlib.Core.Path.{sym, ◌∙◌}
use Rattle.lookup.proofs.Steps.{main-stops, main-goes, main-zero, main-left, main-begins, main-ends}
use Rattle.lookup.proofs.Views.{told-left}
use borrow.Author.Rules.{rules}
use Rattle.lookup.proofs.main_entry.Goals as goal
use Rattle.lookup.proofs.main_entry.Goals.{then-number-eq0-via-then-number-eq0, then-number-eq0-via-else-number-eq0+then-passed-number}

pub returns-then-number-eq0 : goal.returns-then-number-eq0
returns-then-number-eq0 c =
    let x = c.args in
    elim c.then-number-eq0.branch [
      | then-number-eq0-via-then-number-eq0 w ↦ rw w.if-number-eq0.true (main-zero 1 _)
      | then-number-eq0-via-else-number-eq0+then-passed-number w ↦
          sym (main-begins x.passed.now.board.now x.passed.now.count x.number (search rules)
          ∙ main-ends x.passed.now.board.now x.passed.now.count x.number _ w.if-passed-number.true)
    ]

pub overflow_sub-left : goal.overflow_sub-left
overflow_sub-left c =
    let x = c.args in
    omega (arith, c.mains_before.ensures, main-left x.passed.now.board.now x.passed.now.count x.number (search rules))

pub loop-k-init : goal.loop-k-init
loop-k-init c =
    let p = c.args.passed.now in
    let some : 1 ≤ c.args.number = search rules in
    let left = main-left p.board.now p.count c.args.number some in
    (some, rw c.mains_before.ensures left, rw c.mains_before.ensures (main-begins p.board.now p.count c.args.number some))

pub returns-then-left-eq0 : goal.returns-then-left-eq0
returns-then-left-eq0 c =
    let l = c.loop-k in
    let v = l.invariant in
    sym (v.2 ∙ main-stops _ _ l.k l.left _ v.0 c.loop-k-test.true v.1 (told-left c.entry.ensures _ c.left_after-left.ensures) c.if-left-eq0.true)

pub loop-k-preserved : goal.loop-k-preserved
loop-k-preserved c =
    let l = c.loop-k in
    let v = l.invariant in
    let goes = main-goes _ _ l.k l.left _ v.0 c.loop-k-test.true v.1 (told-left c.entry.ensures _ c.left_after-left.ensures) c.if-left-eq0.false in
    (search rules, search rules, v.2 ∙ goes)

pub returns-else-left-eq0 : goal.returns-else-left-eq0
returns-else-left-eq0 c =
    let l = c.loop-k in
    let v = l.invariant in
    let goes = main-goes _ _ l.k l.left _ v.0 c.loop-k-test.true v.1 (told-left c.entry.ensures _ c.left_after-left.ensures) c.if-left-eq0.false in
    sym (v.2 ∙ goes ∙ main-ends _ _ (l.k + 1) c.left_after-left.result (omega arith))
