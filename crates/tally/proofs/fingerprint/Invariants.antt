use Prim.Native.Nat.{◌≤◌, ◌*◌}
use lib.ListN.{take}
use Rattle.model.specs.Counted.{counted, contents}
use Rattle.sha256.specs.State.{Holds}
use Rattle.state.specs.Reached.{history_behind}
use Rattle.tally.proofs.fingerprint.Given as goal

abbrev pub invariant-loop-row : goal.invariant-loop-row
invariant-loop-row l = (l.hash.running.count ≤ 65535 * l.row-index) × Holds l.hash (contents (take l.row-index (counted (history_behind l.progress))))
