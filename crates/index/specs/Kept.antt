-- What every question to the items so far stands on: a board whose first items pass, and an index table that holds their rows.
-- Paper: "Refusals and their order" (index rows). Assumes nothing.
use Rattle.std.specs.Prelude.{◌≡◌, Bool, true, List, ℕ, ◌≤◌, length, take}
use Rattle.model.specs.Format.{Format}
use Rattle.model.specs.Item as item
use Rattle.model.specs.History.{History, place_of, history}
use Rattle.model.specs.Roll.{Eligibility}
use Rattle.model.specs.Audit.{word_limit, item_limit, index_need}
use Rattle.model.specs.Report.{index_rows, filled}
use Rattle.model.specs.Sound.{Passed}
use Rattle.format.specs.Format.{format_of}
use Rattle.format.specs.Layout.{item_on}

-- the first n items of a board, and the item after them
abbrev pub before : List ℕ → ℕ → History
before board n = history (format_of board) board n

abbrev pub item_after : List ℕ → ℕ → item.Item
item_after board n = item_on board (place_of (format_of board) board n)

-- what a rule says of it, in the board's format
abbrev pub rule_after : (Format → History → item.Item → Bool) → List ℕ → ℕ → Bool
rule_after rule board n = rule (format_of board) (before board n) (item_after board n)

-- everyone may vote, with any weight: nothing that is asked of items that passed depends on the roll
abbrev pub anyone : Eligibility
anyone voter weight = true

-- the first n items of the board pass, under some verdicts and with the roll left aside, and the index table holds their rows and zeros
pub record Kept (board index : List ℕ) (n : ℕ) : Type 0 where
  pub rows : index ≡ filled (length index) (index_rows (before board n) 0 (before board n))
  pub verdicts : List ℕ
  pub passed : Passed (format_of board) anyone (take (place_of (format_of board) board n) board) verdicts (before board n)
  pub within : place_of (format_of board) board n ≤ length board
  pub few : n ≤ item_limit
  pub words : length board ≤ word_limit
  pub room : index_need ≤ length index
