-- A round in force, by its item number: whether it is open at a time, and the contests that it then enables. 0 says that there is none.
-- Paper: "Phases". Assumes nothing.
use Rattle.std.specs.Prelude.{◌≡◌, Bool, not, ◌&&◌, List, ℕ, ◌+◌, ◌≤◌, length, get_or, eqb}
use Rattle.model.specs.Lists.{if◌then◌otherwise◌}
use Rattle.model.specs.Codes.{round_type}
use Rattle.model.specs.Item.{code}
use Rattle.model.specs.History.{History, item_no}
use Rattle.model.specs.Phase.{is_open, round_contests}
use Rattle.format.specs.Format.{format_of}
use Rattle.format.specs.Layout.{item_of}
use Rattle.index.specs.declared.Known.{Known}

-- e is a round that stands on the board
pub record IsRound (board : List ℕ) (e : Known) : Type 0 where
  pub item : e.item ≡ item_of board e.item.place
  pub words : e.item.head.count ≡ 5 + (format_of board).sets
  pub within : e.item.end ≤ length board

-- item k of the history is a round, or k is 0
pub record InForce (h : History) (k : ℕ) : Type 0 where
  pub bound : k ≤ length h
  pub round : 1 ≤ k → code (item_no h k) ≡ round_type

-- whether it is open at the time t
unfoldable pub open_under : ℕ → History → ℕ → Bool
open_under t h k = not (eqb k 0) && is_open t (item_no h k)

-- word i of its contests, where it is
unfoldable pub word_under : ℕ → History → ℕ → ℕ → ℕ
word_under t h i k = if open_under t h k then get_or (round_contests (item_no h k)) i 0 otherwise 0
