use Prim.Native.Nat.{◌+◌, ◌-◌, ◌≤◌}
use mathlib.Core.Path.{◌≡◌}
use Rattle.index.specs.Passed.{history_of}
use Rattle.lookup.specs.Search.{main_entry, main_from}
use Rattle.lookup.proofs.Steps.{from}
use Rattle.lookup.proofs.main_entry.Given as goal

abbrev pub invariant-loop-k : goal.invariant-loop-k
invariant-loop-k l =
    (1 ≤ l.k) × (1 ≤ l.left)
    × (main_entry (history_of l.passed) l.number ≡ main_from l.k l.left (from l.passed.board.now l.passed.count l.k))

abbrev pub decreases-loop-k : goal.decreases-loop-k
decreases-loop-k l = l.k-end + 1 - l.k
