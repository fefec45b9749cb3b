-- An item of a board as the code reads it, and main items by their numbers. Paper: "Words on the shelf". Assumes nothing.
use Rattle.std.specs.Prelude.{◌≡◌, List, ℕ, ◌≤◌, length}
use Rattle.model.specs.Lists.{count}
use Rattle.model.specs.Item as model
use Rattle.model.specs.History.{main, main_items, main_item}
use Rattle.format.specs.declared.item.Item.{Item}
use Rattle.format.specs.Format.{format_of}
use Rattle.format.specs.Layout.{item_of}
use Rattle.index.specs.Kept.{before}

-- i is the item at its place, and ends within the board
pub record Read (board : List ℕ) (i : Item) : Type 0 where
  pub same : i ≡ item_of board i.place
  pub within : i.end ≤ length board

-- r is where the item i stands on the board
pub record IsItem (board : List ℕ) (i : model.Item) (r : Item) : Type 0 where
  pub read : Read board r
  pub item : model.item_at (format_of board) board r.place ≡ i

-- the main items among the first n items of a board
abbrev pub mains_of : List ℕ → ℕ → List model.Item
mains_of board n = main_items (before board n)

-- "these are the item's hashed words": of the item at a place, and of main item k of the first n items
abbrev pub hashed_at : List ℕ → ℕ → List ℕ
hashed_at board place = model.hashed (model.item_at (format_of board) board place)

abbrev pub hashed_main : List ℕ → ℕ → ℕ → List ℕ
hashed_main board n k = model.hashed (main_item (mains_of board n) k)

-- a main number of the first n items
pub record Numbered (board : List ℕ) (n number : ℕ) : Type 0 where
  pub some : 1 ≤ number
  pub few : number ≤ count main (before board n)
