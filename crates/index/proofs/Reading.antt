-- What the code's view of an entry says of it: its head, its content words and its address, in the model's terms. Assumes nothing.
use Prim.Native.Nat.{ℕ, ◌+◌, ◌≤◌, ◌<◌}
use mathlib.Core.Path.{◌≡◌, refl, sym, ap, ◌∙◌}
use mathlib.Core.List.{List}
use native.Mathlib.Omega.{arith}
use lib.ListN.{length, get_or}
use lib.Dec.{eqb}
use Rattle.model.specs.Lists.{part}
use Rattle.model.specs.Words.{kind_of, count_of, main_kind}
use Rattle.model.specs.Format.{time_size}
use Rattle.model.specs.Item as model
use Rattle.model.specs.Item.{item_at, item_length, code, word}
use Rattle.model.specs.History.{Entry, main, entry}
use Rattle.format.specs.declared.head.Head.{Head}
use Rattle.format.specs.declared.item.Item.{Item}
use Rattle.format.specs.Format.{format_of}
use Rattle.format.specs.Layout.{head_of, item_of}
use Rattle.format.proofs.Places.{head-is, address_is, word-is}
use Rattle.index.specs.declared.Known.{Known}
use Rattle.index.specs.Kept.{before, Kept}
use Rattle.index.specs.Known.{known_of, IsKnown}
use Rattle.index.proofs.Items.{entry-item, item-within}

-- an item of the first n, as the code knows it
pub entry_known : {board index : List ℕ} {n : ℕ} → Kept board index n → (k : ℕ) → 1 ≤ k → k ≤ n
    → IsKnown board (entry (before board n) k) (known_of board (entry (before board n) k))
entry_known {board} {index} {n} kept k s l =
    record { same = refl; item = entry-item board n k s l; within = (item-within kept k s l).0 }

-- the head of an entry that stands at its place
pub head-of-entry : (board : List ℕ) (e : Entry) → e.item ≡ item_at (format_of board) board e.place → (known_of board e).item.head ≡ head_of e.item.head
head-of-entry board e same = head-is board e.place ∙ ap (λ (i : model.Item). head_of i.head) (sym same)

-- the parts of an item that ends within the board lie within it
pub record Within (board : List ℕ) (i : Item) : Type 0 where
  pub content : i.content + i.head.count ≤ length board
  pub parent : i.parent + (format_of board).address ≤ length board
  pub previous : i.previous + (format_of board).address ≤ length board
  pub time : i.time + time_size ≤ length board
  pub signature : i.signature + (format_of board).signature ≤ length board
  pub address : i.address + (format_of board).address ≤ length board

pub parts_within : {board : List ℕ} (p : ℕ) {i : Item} → i ≡ item_of board p → i.end ≤ length board → Within board i
unfolding item_of item_length
parts_within p e l =
    let end = rw e at l in
    rw e (record {
      content = omega arith;
      parent = omega arith;
      previous = omega arith;
      time = omega arith;
      signature = omega arith;
      address = omega arith;
    })

module _ {board : List ℕ} {e : Entry} {r : Known} (is : IsKnown board e r) where
  pub known-item : r.item ≡ item_of board e.place
  known-item = ap (λ (k : Known). k.item) is.same

  -- the head
  pub known-head : r.item.head ≡ head_of e.item.head
  known-head = ap (λ (i : Item). i.head) known-item ∙ head-of-entry board e is.item

  pub known-code : r.item.head.code ≡ code e.item
  known-code = ap (λ (h : Head). h.code) known-head

  pub known-kind : r.item.head.kind ≡ kind_of e.item.head
  known-kind = ap (λ (h : Head). h.kind) known-head

  pub known-count : r.item.head.count ≡ count_of e.item.head
  known-count = ap (λ (h : Head). h.count) known-head

  pub known-main : eqb r.item.head.kind main_kind ≡ main e
  known-main = ap (λ (k : ℕ). eqb k main_kind) known-kind

  pub known-parent : r.parent ≡ e.parent
  known-parent = ap (λ (k : Known). k.parent) is.same

  pub known-session : r.session ≡ e.session
  known-session = ap (λ (k : Known). k.session) is.same

  pub known-within : Within board r.item
  known-within = parts_within e.place known-item is.within

  -- words of the board
  pub known-address : part r.item.address (format_of board).address board ≡ e.item.address
  known-address =
      ap (λ (i : Item). part i.address (format_of board).address board) known-item
      ∙ address_is board e.place
      ∙ ap (λ (i : model.Item). i.address) (sym is.item)

  pub known-word : (k : ℕ) → k < r.item.head.count → get_or board (r.item.content + k) 0 ≡ word k e.item
  known-word k l =
      ap (λ (i : Item). get_or board (i.content + k) 0) known-item
      ∙ sym (word-is board e.place k (rw known-item at l))
      ∙ ap (word k) (sym is.item)
