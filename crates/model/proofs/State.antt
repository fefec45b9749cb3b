-- One more entry: what the questions to a history answer after it, from what they answered before. A running state that keeps the
-- answers follows the history by these laws. Assumes nothing.
use Prim.Native.Nat.{ℕ, suc, ◌+◌}
use native.Mathlib.Nat.{add-zero, add-suc, suc-add}
use native.Mathlib.Numerals.{add-one, one-add}
use native.Mathlib.Omega.{arith}
use mathlib.Core.Path.{◌≡◌, refl, sym, ap, ◌∙◌}
use mathlib.Core.Bool.{Bool, true, false, not}
use mathlib.Core.List.{List, [], ◌∷◌, ◌++◌, append-nil}
use lib.ListN.{length, length-append}
use lib.Seq.{get_or-append_seam}
use lib.Dec.{eqb, eqb-suc-zero}
use Rattle.model.specs.Lists.{if◌then◌otherwise◌, any, count, keep}
use Rattle.model.specs.Format.{Format}
use Rattle.model.specs.Item.{Item}
use Rattle.model.specs.History.{History, Entry, absent, first, first_from, last, last_from, main, main_items, main_item, last_main, end_after, end_address}
use Rattle.model.proofs.Tests.{by-test}
use Rattle.model.proofs.Lists.{count-append, keep_append}

-- ---- how many pass a test, and what is kept of them

module _ {A : Type 0} (p : A → Bool) (xs : List A) (x : A) where
  pub count-snoc : count p (xs ++ (x ∷ [])) ≡ (if p x then suc (count p xs) otherwise count p xs)
  unfolding count if◌then◌otherwise◌
  count-snoc = rw (count-append p xs (x ∷ [])) (by-test (p x) (λ q. rw q (omega arith)) (λ q. rw q (omega arith)))

  pub keep_snoc : {B : Type 0} (f : A → B) → keep p f (xs ++ (x ∷ [])) ≡ (if p x then keep p f xs ++ (f x ∷ []) otherwise keep p f xs)
  unfolding keep if◌then◌otherwise◌
  keep_snoc f = rw (keep_append p f xs (x ∷ [])) (by-test (p x) (λ q. rw q) (λ q. rw (q, append-nil)))

-- ---- the first and the last that pass a test

-- two choices by one test, and one by another
choose : (a b : Bool) (u v : ℕ) {l m n n' : ℕ} → n ≡ n' → l ≡ (if b then n otherwise u) → m ≡ (if b then n otherwise v)
    → (if a then l otherwise m) ≡ (if b then n' otherwise (if a then u otherwise v))
unfolding if◌then◌otherwise◌
choose true b u v e p q = p ∙ ap (λ (k : ℕ). if b then k otherwise u) e
choose false b u v e p q = q ∙ ap (λ (k : ℕ). if b then k otherwise v) e

-- a number that is found stays, and any other is found behind it
found_first : (a b : Bool) (k g : ℕ) {l n n' : ℕ} → n ≡ n' → l ≡ (if eqb g 0 then (if b then n otherwise 0) otherwise g)
    → (if a then suc k otherwise l) ≡ (if eqb (if a then suc k otherwise g) 0 then (if b then n' otherwise 0) otherwise (if a then suc k otherwise g))
unfolding if◌then◌otherwise◌
found_first true b k g e p = rw (eqb-suc-zero k)
found_first false b k g e p = p ∙ ap (λ (m : ℕ). if eqb g 0 then (if b then m otherwise 0) otherwise g) e

module _ (p : Entry → Bool) where
  last-from-snoc : (k found : ℕ) (h : History) (e : Entry)
      → last_from k found p (h ++ (e ∷ [])) ≡ (if p e then k + length h otherwise last_from k found p h)
  unfolding last_from if◌then◌otherwise◌
  last-from-snoc k found [] e = rw add-zero
  last-from-snoc k found (x ∷ xs) e =
      choose (p x) (p e) _ _ (sym (add-suc k (length xs) ∙ sym (suc-add k (length xs)))) (last-from-snoc (suc k) k xs e) (last-from-snoc (suc k) found xs e)

  pub last_snoc : (h : History) (e : Entry) → last p (h ++ (e ∷ [])) ≡ (if p e then suc (length h) otherwise last p h)
  last_snoc h e = rw one-add at (last-from-snoc 1 0 h e)

  first-from-snoc : (k : ℕ) (h : History) (e : Entry)
      → first_from (suc k) p (h ++ (e ∷ []))
      ≡ (if eqb (first_from (suc k) p h) 0 then (if p e then suc k + length h otherwise 0) otherwise first_from (suc k) p h)
  unfolding first_from if◌then◌otherwise◌
  first-from-snoc k [] e = rw add-zero
  first-from-snoc k (x ∷ xs) e =
      found_first (p x) (p e) k (first_from (suc (suc k)) p xs) (suc-add (suc k) (length xs) ∙ sym (add-suc (suc k) (length xs))) (first-from-snoc (suc k) xs e)

  -- one that was found stays
  pub first-snoc : (h : History) (e : Entry)
      → first p (h ++ (e ∷ [])) ≡ (if eqb (first p h) 0 then (if p e then suc (length h) otherwise 0) otherwise first p h)
  first-snoc h e = rw one-add at (first-from-snoc 0 h e)

  any-first-from : (k : ℕ) (h : History) → any p h ≡ not (eqb (first_from (suc k) p h) 0)
  unfolding any first_from if◌then◌otherwise◌
  any-first-from k [] = refl
  any-first-from k (x ∷ xs) = by-test (p x) (λ q. rw (q, eqb-suc-zero k)) (λ q. rw q (any-first-from (suc k) xs))

  -- any passes where a first one was found
  pub any-first : (h : History) → any p h ≡ not (eqb (first p h) 0)
  any-first h = any-first-from 0 h

  found-last : (k found : ℕ) (h : History) → eqb (last_from (suc k) (suc found) p h) 0 ≡ false
  unfolding last_from if◌then◌otherwise◌
  found-last k found [] = eqb-suc-zero found
  found-last k found (x ∷ xs) = by-test (p x) (λ q. rw q (found-last (suc k) k xs)) (λ q. rw q (found-last (suc k) found xs))

  any-last-from : (k : ℕ) (h : History) → any p h ≡ not (eqb (last_from (suc k) 0 p h) 0)
  unfolding any last_from if◌then◌otherwise◌
  any-last-from k [] = refl
  any-last-from k (x ∷ xs) = by-test (p x) (λ q. rw (q, found-last (suc k) k xs)) (λ q. rw q (any-last-from (suc k) xs))

  -- any passes where a last one was found
  pub any_last : (h : History) → any p h ≡ not (eqb (last p h) 0)
  any_last h = any-last-from 0 h

-- ---- the main items, and the last of them

module _ (is : List Item) (i : Item) where
  main_item-snoc : main_item (is ++ (i ∷ [])) (length (is ++ (i ∷ []))) ≡ i
  unfolding main_item
  main_item-snoc = rw (length-append is (i ∷ []), add-one) (get_or-append_seam is i [] absent.item)

  end_after-snoc : (f : Format) → end_after f (is ++ (i ∷ [])) (length (is ++ (i ∷ []))) ≡ i.address
  unfolding end_after main_item
  end_after-snoc f = rw (length-append is (i ∷ []), add-one) (ap (λ (j : Item). j.address) (get_or-append_seam is i [] absent.item))

module _ (h : History) (e : Entry) where
  pub main_items-snoc : main_items (h ++ (e ∷ [])) ≡ (if main e then main_items h ++ (e.item ∷ []) otherwise main_items h)
  main_items-snoc = keep_snoc main h e (λ e. e.item)

  pub last_main-snoc : last_main (h ++ (e ∷ [])) ≡ (if main e then e.item otherwise last_main h)
  unfolding if◌then◌otherwise◌
  last_main-snoc = by-test (main e) (λ q. rw (main_items-snoc, q, main_item-snoc (main_items h) e.item)) (λ q. rw (main_items-snoc, q))

  pub end_address-snoc : (f : Format) → end_address f (h ++ (e ∷ [])) ≡ (if main e then e.item.address otherwise end_address f h)
  unfolding if◌then◌otherwise◌ end_address
  end_address-snoc f = by-test (main e) (λ q. rw (main_items-snoc, q, end_after-snoc (main_items h) e.item f)) (λ q. rw (main_items-snoc, q))
