use mathlib.Core.Path.{◌≡◌}
use mathlib.Core.List.{List}
use Prim.Native.Nat.{◌≤◌}
use lib.ListN.{length}
use Rattle.model.specs.Counted.{Vote}
use Rattle.tally.specs.Rows.{HoldsRows}
use Rattle.tally.proofs.Table.{Dropped}
use Rattle.tally.proofs.rows.without_voter.Given as goal

abbrev pub invariant-loop-k : goal.invariant-loop-k
invariant-loop-k l =
    (l.kept ≤ l.k) × (length l.ballots ≡ length l.initial.ballots)
    × ((xs : List Vote) → HoldsRows l.initial.ballots l.rows xs → Dropped l.voter (length l.initial.ballots) xs l.ballots l.kept l.k)
