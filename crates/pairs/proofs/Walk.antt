-- One step of the walk backwards, and the addresses that are compared before it. Assumes nothing.
use Prim.Native.Nat.{ℕ, zero, suc, min, ◌-◌, ◌≤◌}
use native.Mathlib.Nat.{not-suc-le-zero}
use native.Mathlib.Omega.{arith}
use mathlib.Core.Path.{◌≡◌, refl, sym, ◌∙◌}
use mathlib.Core.Bool.{Bool, true, false}
use mathlib.Core.List.{List}
use lib.ListN.{length, take, drop}
use Rattle.model.specs.Lists.{if◌then◌otherwise◌, count}
use Rattle.model.specs.Words.{same_words}
use Rattle.model.specs.Item as model
use Rattle.model.specs.Item.{item_at, hashed}
use Rattle.model.specs.History.{History, main, main_items, main_item}
use Rattle.model.specs.Compare.{Comparison, apart, same, collision, backwards, compare}
use Rattle.model.proofs.Lists.{count-keep, count-few}
use Rattle.model.proofs.Unchecked.{length-history}
use Rattle.format.specs.declared.item.Item.{Item}
use Rattle.format.specs.Format.{format_of}
use Rattle.index.specs.Kept.{before, Kept}
use Rattle.pairs.specs.Reading.{IsItem}
use Rattle.pairs.proofs.Hashed.{address_read}

-- a main number of a kept board fits a word
pub mains-few : {board index : List ℕ} {n : ℕ} → Kept board index n → count main (before board n) ≤ 2048
mains-few {board} {n = n} kept = omega (arith, count-few main (before board n), length-history (format_of board) board n, kept.few)

-- two items that are read: a test of what stands on the boards is that of the items
pub items-addressed : {kept later : List ℕ} {i j : model.Item} {a b : Item} {r : Bool} → IsItem kept i a → IsItem later j b
    → r ≡ same_words (take (a.end - a.address) (drop a.address kept)) (take (b.end - b.address) (drop b.address later))
    → r ≡ same_words i.address j.address
items-addressed x y q = q ∙ rw (address_read x.read, address_read y.read, x.item, y.item)

module _ (ks ls : List model.Item) where
  pub backwards-ends : (x y : ℕ) → min x y ≡ 0 → same ≡ backwards ks ls x y
  unfolding backwards
  backwards-ends zero y e = refl
  backwards-ends (suc x) zero e = refl
  backwards-ends (suc x) (suc y) e = absurd (omega arith)

  module _ {r : Bool} where
    pub backwards-differ : (x y : ℕ) → 1 ≤ x → 1 ≤ y → r ≡ same_words (hashed (main_item ks x)) (hashed (main_item ls y)) → r ≡ false
        → collision x y ≡ backwards ks ls x y
    unfolding backwards if◌then◌otherwise◌
    backwards-differ zero y s o t q = absurd (not-suc-le-zero s)
    backwards-differ (suc x) zero s o t q = absurd (not-suc-le-zero o)
    backwards-differ (suc x) (suc y) s o t q = rw (← t, q)

    pub backwards-goes : (x y : ℕ) → 1 ≤ x → 1 ≤ y → r ≡ same_words (hashed (main_item ks x)) (hashed (main_item ls y)) → r ≡ true
        → {u v : ℕ} → u ≡ x - 1 → v ≡ y - 1 → backwards ks ls x y ≡ backwards ks ls u v
    unfolding backwards if◌then◌otherwise◌
    backwards-goes zero y s o t q e f = absurd (not-suc-le-zero s)
    backwards-goes (suc x) zero s o t q e f = absurd (not-suc-le-zero o)
    backwards-goes (suc x) (suc y) s o t q {u} {v} e f =
        let a : u ≡ x = omega arith in
        let b : v ≡ y = omega arith in
        rw (← t, q, a, b)

-- the address of the last main item of the kept board, against that of main item b
module _ (g h : History) (a b : ℕ) (all : a ≡ count main g) {r : Bool}
    (told : r ≡ same_words (main_item (main_items g) a).address (main_item (main_items h) b).address) where
  length-mains : length (main_items g) ≡ a
  length-mains = count-keep main (λ e. e.item) g ∙ sym all

  pub compare-apart : r ≡ false → apart ≡ compare (main_items g) (main_items h) b
  unfolding compare if◌then◌otherwise◌
  compare-apart q = rw (length-mains, ← told, q)

  pub compare-goes : {c : Comparison} → r ≡ true → c ≡ backwards (main_items g) (main_items h) a b → c ≡ compare (main_items g) (main_items h) b
  unfolding compare if◌then◌otherwise◌
  compare-goes q e = e ∙ rw (length-mains, ← told, q)
