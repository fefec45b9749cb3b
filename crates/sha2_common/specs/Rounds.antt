-- How far the rounds of a block have come.
use Rattle.std.specs.Prelude.{◌≡◌, ℕ, List, length, take}
use Rattle.sha2_common.specs.declared.compression.Working.{Working}
use Rattle.sha2_common.specs.Equations.{Functions, schedule, rounds}

module _ {W : Type 0} (f : Functions W) (n : ℕ) (M : List W) where
  -- after t of the n rounds of the block M from the working variables first: w begins with the first t words of the schedule, and v is
  -- what they leave
  pub record Reached (first : Working W) (t : ℕ) (w : List W) (v : Working W) : Type 0 where
    pub sized : length w ≡ n
    pub scheduled : take t w ≡ schedule f M t
    pub worked : v ≡ rounds f (schedule f M n) first t

  -- from w and v after t rounds to w' and v' after u rounds
  abbrev pub Onward : ℕ → ℕ → List W → Working W → List W → Working W → Type 0
  Onward t u w v w' v' = (first : Working W) → Reached first t w v → Reached first u w' v'
