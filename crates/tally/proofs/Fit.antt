-- The ballot table holds the rows of the counted ballots, and they fit, since there are few of them. Paper: request (viii). Assumes nothing.
use mathlib.Core.List.{List}
use Prim.Native.Nat.{ℕ, ◌*◌, ◌≤◌}
use native.Mathlib.Omega.{arith}
use lib.ListN.{length}
use Rattle.model.specs.Counted.{counted}
use Rattle.model.specs.Audit.{ballot_limit, ballot_row}
use Rattle.model.proofs.Bound.{few-ballots}
use Rattle.model.proofs.Unchecked.{length-history}
use Rattle.format.specs.Format.{format_of}
use Rattle.index.specs.Kept.{before, Kept}
use Rattle.state.specs.declared.State.{State}
use Rattle.state.specs.Stands.{Stands}
use Rattle.tally.specs.Rows.{HoldsRows}
use Rattle.tally.specs.Tallied.{Tallied}

pub holds_rows : {board ballots : List ℕ} {s : State} → Stands board s → Tallied board ballots s.items
    → HoldsRows ballots s.ballots (counted (before board s.items))
holds_rows stands t = record { rows = t.rows; number = stands.ballots }

-- those of the first n items, which pass
pub counted-fit : {board index : List ℕ} {n : ℕ} → Kept board index n → length (counted (before board n)) ≤ ballot_limit
counted-fit {board} {n = n} kept = few-ballots kept.passed (omega (arith, length-history (format_of board) board n, kept.few))

module _ {board index : List ℕ} {s : State} (kept : Kept board index s.items) (stands : Stands board s) where
  pub rows_few : s.ballots ≤ ballot_limit
  rows_few = omega (arith, counted-fit kept, stands.ballots)

  pub rows_fit : {ballots : List ℕ} → Tallied board ballots s.items → ballot_row * s.ballots ≤ length ballots
  rows_fit t = omega (arith, rows_few, t.room)
