-- What is known of the item at hand. Assumes nothing.
use Prim.Native.Nat.{ℕ, ◌≤◌}
use mathlib.Core.Path.{◌≡◌, sym, ap, ◌∙◌}
use mathlib.Core.List.{List}
use lib.ListN.{length}
use Rattle.model.specs.Item.{item_at, behind}
use Rattle.model.specs.History.{entry_of, parent_number, session_number}
use Rattle.format.specs.Format.{format_of}
use Rattle.format.specs.Layout.{item_of}
use Rattle.format.specs.declared.item.Item.{Item}
use Rattle.index.specs.Kept.{before, item_after}
use Rattle.index.specs.declared.Known.{Known}
use Rattle.state.specs.declared.State.{State}
use Rattle.state.specs.Stands.{Stands, known_next, AtItem}
use Rattle.state.proofs.Next.{next-item}
use Rattle.state.proofs.At.{at_next}

-- ---- its parts

module _ (board : List ℕ) (p : ℕ) {item : Item} (is : item ≡ item_of board p) where
  pub item-place : item.place ≡ p
  unfolding item_of
  item-place = ap (λ (i : Item). i.place) is

  pub item-own : item ≡ item_of board item.place
  item-own = is ∙ ap (item_of board) (sym item-place)

  pub item-end : item.end ≡ behind (format_of board) board p
  unfolding item_of
  item-end = ap (λ (i : Item). i.end) is

module _ {board index : List ℕ} {s : State} {c : Known} (a : AtItem board index s c) where
  pub at_own : (c.item ≡ item_of board c.item.place) × (c.item.end ≤ length board)
  at_own = (item-own board _ (next-item (at_next a)), a.within)

  pub at_read : item_at (format_of board) board c.item.place ≡ item_after board s.items
  at_read = ap (item_at (format_of board) board) (item-place board _ (next-item (at_next a)))

-- the candidate, from what the searches answer
pub candidate-known : (board : List ℕ) {s : State} {item : Item} {parent session : ℕ} → Stands board s → item ≡ item_of board s.place
    → parent ≡ parent_number (before board s.items) (item_at (format_of board) board item.place)
    → session ≡ session_number (before board s.items) (item_at (format_of board) board item.place)
    → record { item = item; parent = parent; session = session } ≡ known_next board s
unfolding entry_of
candidate-known board {s} {item} {parent} {session} stands is ep es =
    let read : item_at (format_of board) board item.place ≡ item_after board s.items = ap (item_at (format_of board) board) (item-place board s.place is ∙ stands.place) in
    λ j. record {
      item = is j;
      parent = (ep ∙ ap (parent_number (before board s.items)) read) j;
      session = (es ∙ ap (session_number (before board s.items)) read) j;
    }
