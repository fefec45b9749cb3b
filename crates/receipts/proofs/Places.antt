-- The words of receipts by their places, and whether an item has a receipt's words. Assumes nothing.
use Prim.Native.Nat.{ℕ, suc, ◌+◌, ◌-◌, ◌*◌, ◌≤◌, ◌<◌}
use native.Mathlib.Nat.{add-zero, mul-suc, mul_comm, mul-le-mul, mul-le-mul_left}
use native.Mathlib.Omega.{arith}
use mathlib.Core.Path.{◌≡◌, refl, sym, ap, ◌∙◌}
use mathlib.Core.Bool.{Bool, ◌&&◌, and_comm, and_assoc}
use mathlib.Core.List.{List, [], ◌∷◌, ◌++◌}
use lib.ListN.{length, get_or, drop}
use lib.Seq.{get_or-drop, get_or-take}
use lib.Dec.{eqb}
use Rattle.model.specs.Lists.{part}
use Rattle.model.specs.Words.{same_words}
use Rattle.model.specs.Item as model
use Rattle.model.specs.History.{Entry}
use Rattle.model.specs.Audit.{item_limit}
use Rattle.model.specs.Receipts.{receipt_limit, receipt_size, receipt_count, receipt_at, matches}
use Rattle.model.proofs.Parts.{length_part, part-add}
use Rattle.format.specs.declared.item.Item.{Item}
use Rattle.format.specs.Format.{format_of}
use Rattle.format.specs.Layout.{item_of}
use Rattle.format.proofs.Places.{signature-is}
use Rattle.format.proofs.Traits.{sizes}
use Rattle.index.specs.declared.Known.{Known}
use Rattle.index.specs.Known.{IsKnown}
use Rattle.index.proofs.Reading.{known-item, known-address}
use Rattle.lookup.proofs.Views.{known-end}
use Rattle.receipts.specs.Answering.{Whole}

-- a receipt has words
pub size-some : (board : List ℕ) {n : ℕ} → n ≡ receipt_size (format_of board) → 1 ≤ n
size-some board e = let b = sizes board in omega arith

-- a chain table has room for all of them
pub few-enough : {board receipts : List ℕ} → Whole board receipts → receipt_count (format_of board) receipts ≤ item_limit
few-enough w = omega (arith, w.few)

-- ---- where receipt k stands

-- one of so many words, at its place among n words
pub record Placed (size k n : ℕ) : Type 0 where
  pub place : size * k ≤ 49 * receipt_limit
  pub end : size * k + size ≤ n

placed_at : (size k m n : ℕ) → size ≤ 49 → n ≡ m * size → m ≤ receipt_limit → k < m → Placed size k n
placed_at size k m n few all limit less =
    let up : size * suc k ≤ size * m = mul-le-mul_left size less in
    let under : k ≤ receipt_limit = omega arith in
    let most : size * k ≤ 49 * receipt_limit = mul-le-mul few under in
    record { place = most; end = omega (arith, mul-suc size k, mul_comm m size) }

pub placed : {board receipts : List ℕ} → Whole board receipts → {size k : ℕ} → size ≡ receipt_size (format_of board)
    → k < receipt_count (format_of board) receipts → Placed size k (length receipts)
placed {board} w e l =
    let b = sizes board in
    rw e (placed_at _ _ _ _ (omega arith) w.whole w.few l)

-- the first word of its address
pub word-inside : {board receipts : List ℕ} → Whole board receipts → {size s k : ℕ} → size ≡ receipt_size (format_of board)
    → s ≡ (format_of board).signature → k < receipt_count (format_of board) receipts → size * k + s < length receipts
word-inside {board} w e q l = let b = sizes board in omega (arith, (placed w e l).end)

pub receipt-word : (board receipts : List ℕ) (k : ℕ) {size s : ℕ} → size ≡ receipt_size (format_of board) → s ≡ (format_of board).signature
    → get_or receipts (size * k + s) 0 ≡ get_or (receipt_at (format_of board) receipts k).address 0 0
unfolding receipt_at part
receipt-word board receipts k p q =
    let b = sizes board in
    rw (p, q, get_or-take (format_of board).address (drop (receipt_size (format_of board) * k + (format_of board).signature) receipts) 0 0 (omega arith), get_or-drop, add-zero)

-- ---- an item with a receipt's words

-- two runs are the same where their first parts are, which are as long, and their rests
same-both : (xs ys us vs : List ℕ) → length xs ≡ length ys → same_words (xs ++ us) (ys ++ vs) ≡ (same_words xs ys && same_words us vs)
unfolding same_words
same-both [] [] us vs e = refl
same-both [] (y ∷ ys) us vs e = absurd (omega arith)
same-both (x ∷ xs) [] us vs e = absurd (omega arith)
same-both (x ∷ xs) (y ∷ ys) us vs e =
    ap (eqb x y &&◌) (same-both xs ys us vs (omega arith)) ∙ sym (and_assoc (eqb x y) (same_words xs ys) (same_words us vs))

-- a signature ends where the address begins, so the code finds its width
address-begins : (board : List ℕ) (p : ℕ) {i : Item} → i ≡ item_of board p → i.address ≡ i.signature + (format_of board).signature
unfolding item_of
address-begins board p e = rw e (omega arith)

module _ {board : List ℕ} {e : Entry} {c : Known} (is : IsKnown board e c) where
  pub known-begins : c.item.address ≡ c.item.signature + (format_of board).signature
  known-begins = address-begins board e.place (known-item is)

  pub both-width : c.item.end - c.item.signature ≡ receipt_size (format_of board)
  both-width = omega (arith, known-begins, known-end is)

  pub both-ends : c.item.signature ≤ c.item.end
  both-ends = omega (arith, known-begins, known-end is)

  pub both-inside : c.item.signature + receipt_size (format_of board) ≤ length board
  both-inside = omega (arith, known-begins, known-end is, is.within)

  known-signature : part c.item.signature (format_of board).signature board ≡ e.item.signature
  known-signature =
      ap (λ (i : Item). part i.signature (format_of board).signature board) (known-item is)
      ∙ signature-is board e.place
      ∙ ap (λ (i : model.Item). i.signature) (sym is.item)

  -- the test of the code, by the width that it found: both signatures, then both addresses
  module _ {receipts : List ℕ} (whole : Whole board receipts) (k : ℕ) (l : k < receipt_count (format_of board) receipts) where
    pub matches-both : {size : ℕ} → size ≡ receipt_size (format_of board) → {r : Bool}
        → r ≡ same_words (part c.item.signature size board) (part (size * k) size receipts) → r ≡ matches (receipt_at (format_of board) receipts k) e.item
    unfolding receipt_at
    matches-both {size} p q =
        let f = format_of board in
        let r = receipt_at f receipts k in
        let near : part c.item.signature size board ≡ e.item.signature ++ e.item.address =
        rw (p, part-add c.item.signature f.signature f.address board, ← known-begins, known-signature, known-address is) in
        let far : part (size * k) size receipts ≡ r.signature ++ r.address =
        rw p (part-add (receipt_size f * k) f.signature f.address receipts) in
        let one : length e.item.signature ≡ f.signature =
        rw (← known-signature) (length_part c.item.signature f.signature board (omega (arith, both-inside))) in
        let other : length r.signature ≡ f.signature =
        length_part (receipt_size f * k) f.signature receipts (omega (arith, (placed whole {k = k} refl l).end)) in
        q ∙ rw (near, far) (same-both e.item.signature r.signature e.item.address r.address (one ∙ sym other))
        ∙ and_comm (same_words e.item.signature r.signature) (same_words e.item.address r.address)
