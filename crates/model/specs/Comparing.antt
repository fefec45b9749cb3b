-- The entry that compares two boards: its answer, and what the four buffers hold after it, in every case.
-- Paper: "Comparing takes a kept board"; demand 3. Assumes nothing.
use Rattle.std.specs.Prelude.{ℕ, min, ◌≡◌, ◌↔◌, List, length}
use Rattle.model.specs.Lists.{if◌then◌otherwise◌, count}
use Rattle.model.specs.Refusal.{no_such_item}
use Rattle.model.specs.Format.{Format}
use Rattle.model.specs.History.{History, main, main_items, main_item, end_address}
use Rattle.model.specs.Audit.{Outcome}
use Rattle.model.specs.Report.{index_after, ballots_after, outside}
use Rattle.model.specs.Above.{answered, buffer_after}
use Rattle.model.specs.Compare.{Comparison, apart, same, collision, compare, SameAddress, Agreed, Same, Collision}
use Rattle.model.specs.Alone.{SameStart}

-- which board a refusal names
pub data Board : Type 0 where
  kept_board later_board : Board

pub data ComparingAnswer : Type 0 where
  refused_board : Board → ℕ → ℕ → ComparingAnswer  -- a refusal of that board, and the items passed
  compared : Comparison → ComparingAnswer

-- ---- from the outcomes of both audits, the kept board's first, and the main number b: "The kept board is audited first, then the later,
-- each with its own sheets" (its own index table and ballot table)

-- the kept board is accepted with the history g. "Main number 0 or any past the last is 19, naming the later board and its item count"
unfoldable pub answer_later : History → Outcome → ℕ → ComparingAnswer
unfolding if◌then◌otherwise◌
answer_later g later b =
    answered (refused_board later_board)
    (λ h. if outside b (count main h) then refused_board later_board no_such_item (length h) otherwise compared (compare (main_items g) (main_items h) b))
    later

-- "a refusal names the board and stops there"
unfoldable pub comparing_answer : Outcome → Outcome → ℕ → ComparingAnswer
comparing_answer kept later b = answered (refused_board kept_board) (λ g. answer_later g later b) kept

-- The kept board's tables are as its own audit leaves them (`index_after`, `ballots_after`), whatever comes after it. A table of the later board
-- is "unchanged if the kept one is refused", and else what the later board's audit leaves
abbrev pub later_index_after : Outcome → Outcome → List ℕ → List ℕ
later_index_after kept later = buffer_after kept (λ g. index_after later)

abbrev pub later_ballots_after : Outcome → Outcome → List ℕ → List ℕ
later_ballots_after kept later = buffer_after kept (λ g. ballots_after later)

-- ---- what is promised of the answer for two accepted boards, the kept one of the format f with the history g and the later one of the
-- format f' with the history h, where main number b is one of the later board's

pub record Answered (f f' : Format) (g h : History) (b : ℕ) (answer : ComparingAnswer) : Type 0 where
  -- "apart exactly when the kept board's end address does not stand at that item"
  pub apart-is : (answer ≡ compared apart) ↔ (end_address f g ≡ (main_item (main_items h) b).address → ⊥)
  -- "same exactly when both have the same main items up to there", and it stands there; then a = b
  pub same-is : (answer ≡ compared same) ↔ Same (main_items g) (main_items h) b
  -- "It is same exactly when they are equal and so are the hashed words in every pair"
  pub same-pairs : let a = length (main_items g) in
      (answer ≡ compared same) ↔ (SameAddress (main_items g) (main_items h) a b × Agreed (main_items g) (main_items h) a b (min a b))
  -- "hence the same keys and counted ballots"
  pub same_start : answer ≡ compared same → SameStart f f' g h b
  -- a collision is reported exactly with a pair as demanded: "It never reports a collision without such a pair."
  pub collision-is : (x y : ℕ) → (answer ≡ compared (collision x y)) ↔ Collision f (main_items g) (main_items h) (length (main_items g)) b x y
  -- "Where it stands there and they are not the same"
  pub collides : end_address f g ≡ (main_item (main_items h) b).address → (Same (main_items g) (main_items h) b → ⊥)
      → (x : ℕ) × (y : ℕ) × (answer ≡ compared (collision x y))
