-- The main items as a history of their own: a test that only main items pass finds there, under its main number, what it finds among all items.
-- So what is found rests on the main items alone, and can be told by them. Assumes nothing.
use Prim.Native.Nat.{ℕ, zero, suc, ◌≤◌, ◌<◌}
use native.Mathlib.Nat.{not-suc-le-zero}
use native.Mathlib.Omega.{arith}
use mathlib.Core.Path.{◌≡◌, refl, sym, ap, subst, ◌∙◌}
use mathlib.Core.Logic.{◌↔◌}
use mathlib.Core.Bool.{Bool}
use mathlib.Core.List.{List, map}
use lib.ListN.{length, length-map, get_or-map}
use lib.Dec.{T}
use Rattle.model.specs.Lists.{count}
use Rattle.model.specs.Item.{Item, is_main}
use Rattle.model.specs.History.{History, Entry, absent, entry, item_no, first, main, main_item, main_items, main_number}
use Rattle.model.proofs.Lists.{every, every-at, every-keep, count-keep, map-keep}
use Rattle.model.proofs.Numbers.{OnlyMain, MainAt, keep-entry, first-main, first-is, first-none}

-- an entry that is only its item
abbrev pub only : Item → Entry
only i = record { place = 0; item = i; parent = 0; session = 0 }

abbrev pub items_alone : List Item → History
items_alone = map only

pub entry-only : (is : List Item) (m : ℕ) → entry (items_alone is) m ≡ only (main_item is m)
unfolding entry main_item
entry-only is zero = refl
entry-only is (suc m) = get_or-map only is m _

pub mains-count : (h : History) → length (main_items h) ≡ count main h
mains-count = count-keep main (λ (e : Entry). e.item)

pub is-main : (h : History) (m : ℕ) → 1 ≤ m → m ≤ length (main_items h) → T (is_main (main_item (main_items h) m))
unfolding main_item
is-main h zero one inside = absurd (not-suc-le-zero one)
is-main h (suc m) one inside =
    let all = every-keep main (λ (e : Entry). e.item) (λ i. T (is_main i)) h (every _ (λ e t. t) h) in
    every-at (λ (i : Item). T (is_main i)) (main_items h) m absent.item all inside

-- a main item stands there under its main number
pub item-alone : (h : History) (k : ℕ) → MainAt h k → item_no (items_alone (main_items h)) (main_number h k) ≡ item_no h k
unfolding entry count
item-alone h zero t = refl
item-alone h (suc k) t =
    let own : Entry → Entry = λ e. only e.item in
    ap (λ (g : History). item_no g (main_number h (suc k))) (map-keep main (λ (e : Entry). e.item) only h)
    ∙ ap (λ (e : Entry). e.item) (keep-entry own h (suc k) (t (omega arith)))

-- ---- what a test finds

module _ (p : Entry → Bool) where
  -- its main number, by a test of the item alone
  pub among-mains : ((e : Entry) → p (only e.item) ≡ p e) → (h : History) → OnlyMain p h
      → main_number h (first p h) ≡ first p (items_alone (main_items h))
  among-mains same h mains =
      first-main p (λ e. only e.item) same h mains ∙ ap (first p) (sym (map-keep main (λ (e : Entry). e.item) only h))

  -- where passing is to be one of the numbers Q, the first of these is found, or there is none
  module _ (is : List Item) (Q : ℕ → Type 0) (told : (m : ℕ) → ((1 ≤ m) × (m ≤ length is) × T (p (only (main_item is m)))) ↔ Q m) where
    told-alone : (m : ℕ) → ((1 ≤ m) × (m ≤ length (items_alone is)) × T (p (entry (items_alone is) m))) ↔ Q m
    told-alone m =
        subst (λ (e : Entry). ((1 ≤ m) × (m ≤ length (items_alone is)) × T (p e)) ↔ Q m) (sym (entry-only is m))
        (subst (λ (n : ℕ). ((1 ≤ m) × (m ≤ n) × T (p (only (main_item is m)))) ↔ Q m) (sym (length-map is only)) (told m))

    pub alone-is : (m : ℕ) → 1 ≤ m → (first p (items_alone is) ≡ m) ↔ (Q m × ((j : ℕ) → j < m → Q j → ⊥))
    alone-is = first-is p (items_alone is) Q told-alone

    pub alone-none : (first p (items_alone is) ≡ 0) ↔ ((m : ℕ) → Q m → ⊥)
    alone-none = first-none p (items_alone is) Q told-alone
