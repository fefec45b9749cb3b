-- Tables that are long enough, tables that are zero, and the tables of an outcome. Paper: "Refusals and their order". Assumes nothing.
use Rattle.std.specs.Prelude.{◌≡◌, List, ℕ, ◌≤◌, length, replicate}
use Rattle.model.specs.Audit.{Outcome, unread, refused, accepted, word_limit, index_need, ballot_need}
use Rattle.index.specs.Kept.{Kept}
use Rattle.tally.specs.Tallied.{Tallied}

-- neither 1's word limit nor 2 applies
pub record Sized (board index ballots : List ℕ) : Type 0 where
  pub few_words : length board ≤ word_limit
  pub wide : index_need ≤ length index
  pub roomy : ballot_need ≤ length ballots

-- a table that is all zero
abbrev pub Zeros : List ℕ → Type 0
Zeros table = table ≡ replicate (length table) 0

-- where the items are read: the tables hold the rows of those that an outcome says are passed
abbrev pub Holds : List ℕ → Outcome → List ℕ → List ℕ → Type 0
Holds board (unread n) index ballots = ⊥
Holds board (refused n k) index ballots = Kept board index k × Tallied board ballots k
Holds board (accepted h) index ballots = Kept board index (length h) × Tallied board ballots (length h)
