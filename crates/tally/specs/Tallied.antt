-- What the ballot table holds while a board is read. Paper: "Counted ballots", "Refusals and their order" (ballot rows). Assumes nothing.
use Rattle.std.specs.Prelude.{◌≡◌, List, ℕ, ◌≤◌, length}
use Rattle.model.specs.Counted.{counted}
use Rattle.model.specs.Audit.{ballot_need}
use Rattle.model.specs.Report.{ballot_rows, filled}
use Rattle.index.specs.Kept.{before}

-- the rows of the counted ballots of the first n items, and zeros
pub record Tallied (board ballots : List ℕ) (n : ℕ) : Type 0 where
  pub rows : ballots ≡ filled (length ballots) (ballot_rows (counted (before board n)))
  pub room : ballot_need ≤ length ballots
