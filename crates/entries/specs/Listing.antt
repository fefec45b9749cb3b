-- Listing an item's ancestry: the outcome of what the caller passed, and buffers that are long enough.
-- Paper: "One entry lists an item's ancestry". Assumes nothing.
use Rattle.std.specs.Prelude.{ℕ, ◌≤◌, Bool, ◌||◌, List, length, ltb}
use Rattle.model.specs.Audit.{Outcome, word_limit, index_need, ballot_need, is_short}
use Rattle.model.specs.Ancestry.{list_need, ancestry_audit}
use Rattle.format.specs.Format.{format_of}
use Rattle.audit.specs.declared.Submission.{Submission}
use Rattle.audit.specs.Outcome.{MutSlice}

-- the outcome of a board with its verdicts and its roll, and the two tables and the list by their lengths
abbrev pub listing_outcome : {D E F : Type 0} → Submission → MutSlice D → MutSlice E → MutSlice F → Outcome
listing_outcome s index ballots list =
    ancestry_audit (format_of s.board.now) s.board.now s.verdicts.now s.roll.now
    (length index.entry.now) (length ballots.entry.now) (length list.entry.now)

-- "A shorter list sheet is 2, tested with the other sheets"
abbrev pub is_short_for : (index ballots list : List ℕ) → Bool
is_short_for index ballots list = is_short (length index) (length ballots) || ltb (length list) list_need

-- neither 1's word limit nor 2 applies
pub record Sized (board index ballots list : List ℕ) : Type 0 where
  pub few : length board ≤ word_limit
  pub wide : index_need ≤ length index
  pub roomy : ballot_need ≤ length ballots
  pub long : list_need ≤ length list
