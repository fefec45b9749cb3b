use Prim.Native.Nat.{◌+◌, ◌-◌, ◌≤◌}
use mathlib.Core.Path.{◌≡◌}
use lib.Dec.{eqb}
use Rattle.model.specs.Lists.{any}
use Rattle.model.specs.History.{child_of}
use Rattle.index.specs.Passed.{history_of}
use Rattle.lookup.proofs.Steps.{from}
use Rattle.lookup.proofs.has_child.Given as goal

abbrev pub invariant-loop-child : goal.invariant-loop-child
invariant-loop-child l =
    let test = child_of l.parent (λ x. eqb x l.code) in
    (1 ≤ l.child) × (any test (history_of l.passed) ≡ any test (from l.passed.board.now l.passed.count l.child))

abbrev pub decreases-loop-child : goal.decreases-loop-child
decreases-loop-child l = l.child-end + 1 - l.child
