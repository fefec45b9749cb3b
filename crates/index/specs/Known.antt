-- What the code knows of an item: where its parts stand, and the item numbers of its parent and of its session.
-- Paper: "Words on the shelf", "Parent", "Session of an item". Assumes nothing.
use Rattle.std.specs.Prelude.{◌≡◌, List, ℕ, suc, ◌≤◌, ◌<◌, length}
use Rattle.model.specs.Item.{item_at}
use Rattle.model.specs.History.{Entry, place_of, entry_of}
use Rattle.model.specs.Audit.{item_limit}
use Rattle.model.specs.Sound.{Meets}
use Rattle.format.specs.Format.{format_of}
use Rattle.format.specs.Layout.{item_of}
use Rattle.index.specs.Kept.{before, item_after, anyone, Kept}
use Rattle.index.specs.declared.Known.{Known}

-- an entry of a board's history, as the code knows it
abbrev pub known_of : List ℕ → Entry → Known
known_of board e = record { item = item_of board e.place; parent = e.parent; session = e.session }

-- r is the entry e, whose item stands at its place, within the board
pub record IsKnown (board : List ℕ) (e : Entry) (r : Known) : Type 0 where
  pub same : r ≡ known_of board e
  pub item : e.item ≡ item_at (format_of board) board e.place
  pub within : r.item.end ≤ length board

-- the item after the first n meets the rules, under some verdict and with the roll left aside, and c is what is known of it
pub record Passing (board index : List ℕ) (n : ℕ) (c : Known) : Type 0 where
  pub kept : Kept board index n
  pub more : n < item_limit
  pub known : c ≡ known_of board (entry_of (before board n) (place_of (format_of board) board n) (item_after board n))
  pub verdict : List ℕ
  pub meets : Meets (format_of board) anyone (before board n) verdict (item_after board n)
  pub within : place_of (format_of board) board (suc n) ≤ length board
