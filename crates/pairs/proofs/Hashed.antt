-- The hashed words and the address of an item, each as a slice of the board. Assumes nothing.
use Prim.Native.Nat.{ℕ, ◌+◌, ◌-◌, ◌≤◌}
use native.Mathlib.Omega.{arith}
use mathlib.Core.Path.{◌≡◌, sym, ap, ◌∙◌}
use mathlib.Core.Bool.{Bool}
use mathlib.Core.List.{List}
use lib.ListN.{length, take, drop}
use Rattle.model.specs.Lists.{part}
use Rattle.model.specs.Words.{same_words}
use Rattle.model.specs.Item.{item_at, item_length, hashed_length}
use Rattle.format.specs.declared.item.Item.{Item}
use Rattle.format.specs.Format.{format_of}
use Rattle.format.specs.Layout.{item_of}
use Rattle.format.proofs.Places.{hashed-is, signature-behind, address_is}
use Rattle.lookup.proofs.Views.{address-width}
use Rattle.pairs.specs.Reading.{Read, hashed_at}

-- an item that is read: its hashed words and its address lie within the board
module _ {board : List ℕ} {i : Item} (r : Read board i) where
  signature-read : i.signature ≡ i.place + hashed_length (format_of board) i.head.count
  signature-read =
      ap (λ (x : Item). x.signature) r.same
      ∙ signature-behind board i.place
      ∙ ap (λ (x : Item). i.place + hashed_length (format_of board) x.head.count) (sym r.same)

  pub hashed-read : take (i.signature - i.place) (drop i.place board) ≡ hashed_at board i.place
  unfolding part
  hashed-read =
      let size : i.signature - i.place ≡ hashed_length (format_of board) i.head.count = omega (arith, signature-read) in
      ap (λ (n : ℕ). part i.place n board) size
      ∙ ap (λ (x : Item). part i.place (hashed_length (format_of board) x.head.count) board) r.same
      ∙ hashed-is board i.place (rw r.same at r.within)

  -- where its parts end
  pub parts-read : (i.place ≤ i.signature) × (i.signature ≤ length board) × (i.address ≤ i.end) × (i.end ≤ length board)
  unfolding item_of item_length
  parts-read = let l = rw r.same at r.within in rw r.same (omega arith)

  pub address_read : take (i.end - i.address) (drop i.address board) ≡ (item_at (format_of board) board i.place).address
  unfolding part
  address_read =
      ap (λ (n : ℕ). part i.address n board) (address-width board i.place r.same)
      ∙ ap (λ (x : Item). part x.address (format_of board).address board) r.same
      ∙ address_is board i.place

pub hashed-same : {kept later : List ℕ} {a b : Item} → Read kept a → Read later b → {r : Bool}
    → r ≡ same_words (take (a.signature - a.place) (drop a.place kept)) (take (b.signature - b.place) (drop b.place later))
    → r ≡ same_words (hashed_at kept a.place) (hashed_at later b.place)
hashed-same x y q = q ∙ rw (hashed-read x, hashed-read y)

-- for the attribute of a function that reads such parts
pub ruleset ends = (parts-read)
