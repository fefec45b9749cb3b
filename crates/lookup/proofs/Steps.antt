-- One step of a search among the first n items of a board: it stops at item k, goes on to the next, or has passed them all. Of the test
-- of item k the answer is given. Assumes nothing.
use Prim.Native.Nat.{ℕ, zero, suc, ◌+◌, ◌-◌, ◌≤◌, ◌<◌}
use native.Mathlib.Nat.{not-suc-le-zero, add-zero, sub-zero}
use native.Mathlib.Numerals.{add-one}
use native.Mathlib.Omega.{arith}
use mathlib.Core.Path.{◌≡◌, refl, ap, ◌∙◌}
use mathlib.Core.Logic.{◌≢◌}
use mathlib.Core.Bool.{Bool, true, false}
use mathlib.Core.List.{List, [], ◌∷◌, ◌++◌}
use lib.ListN.{length, take, drop, length-take, drop_of_length-le}
use lib.Seq.{drop-cons, take-suc, length-take-le, take_all}
use lib.Dec.{eqb, eqb-suc-zero}
use borrow.Author.Tests.{eq-eqb, ne_eqb}
use Rattle.model.specs.Lists.{if◌then◌otherwise◌, any, count}
use Rattle.model.specs.History.{History, Entry, absent, entry, main, main_number, first, first_from, last, last_from}
use Rattle.model.proofs.Tests.{by-test}
use Rattle.model.proofs.Lists.{count-few}
use Rattle.model.proofs.State.{first-snoc, last_snoc}
use Rattle.model.proofs.Unchecked.{length-history}
use Rattle.format.specs.Format.{format_of}
use Rattle.index.specs.Kept.{before}
use Rattle.lookup.specs.Search.{main_from}

-- the items from number k on: item k, then those from the next number on
from-entry : (h : History) (k : ℕ) → 1 ≤ k → k ≤ length h → drop (k - 1) h ≡ entry h k ∷ drop (k + 1 - 1) h
unfolding entry
from-entry h zero s l = absurd (not-suc-le-zero s)
from-entry h (suc k) s l =
    let here : suc k - 1 ≡ k = omega arith in
    let next : suc k + 1 - 1 ≡ suc k = omega arith in
    rw (here, next) (drop-cons h k absent l)

-- the items up to number k: those before it, then item k
to-entry : (h : History) (k : ℕ) → 1 ≤ k → k ≤ length h → take k h ≡ take (k - 1) h ++ (entry h k ∷ [])
unfolding entry
to-entry h zero s l = absurd (not-suc-le-zero s)
to-entry h (suc k) s l = let here : suc k - 1 ≡ k = omega arith in rw here (take-suc h k absent l)

-- there is no main number 0
pub main-zero : (k : ℕ) (es : History) → 0 ≡ main_from k 0 es
unfolding main_from
main-zero k [] = refl
main-zero k (e ∷ es) = refl

-- at an item e, where left main items are to be passed, the last of them the one sought: rest are left after it
main-turn : (k left rest : ℕ) (e : Entry) (es : History) → 1 ≤ left → rest ≡ (if main e then left - 1 otherwise left)
    → main_from k left (e ∷ es) ≡ (if eqb rest 0 then k otherwise main_from (suc k) rest es)
unfolding main_from if◌then◌otherwise◌
main-turn k zero rest e es s a = absurd (not-suc-le-zero s)
main-turn k (suc zero) rest e es s a =
    by-test (main e)
    (λ q. let none : rest ≡ 0 = omega (arith, rw q at a) in rw (q, none))
    (λ q. let same : rest ≡ 1 = rw q at a in rw (q, same))
main-turn k (suc (suc m)) rest e es s a =
    by-test (main e)
    (λ q. let less : rest ≡ suc m = omega (arith, rw q at a) in rw (q, less, eqb-suc-zero m))
    (λ q. let same : rest ≡ suc (suc m) = rw q at a in rw (q, same, eqb-suc-zero (suc m)))

-- behind the first j items, where fewer of them are main than are to be passed
main-skip : (k left : ℕ) (es : History) (j : ℕ) → count main (take j es) < left
    → main_from k left es ≡ main_from (k + j) (left - count main (take j es)) (drop j es)
unfolding main_from count if◌then◌otherwise◌
main-skip k left es zero l = rw (add-zero, sub-zero)
main-skip k left [] (suc j) l = refl
main-skip k left (e ∷ es) (suc j) l =
    let next : suc k + j ≡ k + suc j = omega arith in
    let passed = count main (take j es) in
    by-test (main e)
    (λ q. let fewer : suc passed < left = rw q at l in
    let same : left - 1 - passed ≡ left - suc passed = omega arith in
    rw (q, ← next, ← same)
    (main-turn k left (left - 1) e es (omega arith) (rw q) ∙ rw (ne_eqb (left - 1) 0 (λ z. omega arith)) (main-skip (suc k) (left - 1) es j (omega arith))))
    (λ q. let fewer : passed < left = rw q at l in
    rw (q, ← next)
    (main-turn k left left e es (omega arith) (rw q) ∙ rw (ne_eqb left 0 (λ z. omega arith)) (main-skip (suc k) left es j fewer)))

module _ (board : List ℕ) (n : ℕ) where
  abbrev h : History
  h = before board n

  -- what is left at number k
  abbrev pub from : ℕ → History
  from k = drop (k - 1) h

  from-k : (k : ℕ) → 1 ≤ k → k ≤ n → from k ≡ entry h k ∷ from (k + 1)
  from-k k s l = from-entry h k s (omega (arith, length-history (format_of board) board n))

  from_past : (k : ℕ) → n < k → from k ≡ []
  from_past k l = drop_of_length-le h {i = k - 1} (omega (arith, length-history (format_of board) board n))

  -- ---- up from the first item

  module _ (p : Entry → Bool) (k : ℕ) where
    module _ (s : 1 ≤ k) (l : k ≤ n) (r : Bool) (told : r ≡ p (entry h k)) where
      pub any-stops : r ≡ true → any p (from k) ≡ true
      unfolding any
      any-stops q = rw (from-k k s l, ← told, q)

      pub any-goes : r ≡ false → any p (from k) ≡ any p (from (k + 1))
      unfolding any
      any-goes q = rw (from-k k s l, ← told, q)

    pub any-ends : n < k → any p (from k) ≡ false
    unfolding any
    any-ends l = rw (from_past k l)

  -- ---- down from the last item

  -- the items up to number k
  abbrev pub up_to : ℕ → History
  up_to k = take k h

  pub to-all : up_to n ≡ h
  to-all = take_all n h (omega (arith, length-history (format_of board) board n))

  module _ (p : Entry → Bool) where
    pub last-ends : (k : ℕ) → k ≡ 0 → last p (up_to k) ≡ 0
    unfolding last_from
    last-ends k none = rw none

    pub first_ends : (k : ℕ) → k ≡ 0 → first p (up_to k) ≡ 0
    unfolding first_from
    first_ends k none = rw none

    module _ (k : ℕ) (s : 1 ≤ k) (l : k ≤ n) where
      within : k ≤ length h
      within = omega (arith, length-history (format_of board) board n)

      size : suc (length (up_to (k - 1))) ≡ k
      size = omega (arith, length-take-le (k - 1) h (omega (arith, within)))

      pub last_step : last p (up_to k) ≡ (if p (entry h k) then k otherwise last p (up_to (k - 1)))
      last_step = ap (last p) (to-entry h k s within) ∙ last_snoc p (up_to (k - 1)) (entry h k) ∙ rw size

      pub first_step : first p (up_to k)
          ≡ (if eqb (first p (up_to (k - 1))) 0 then (if p (entry h k) then k otherwise 0) otherwise first p (up_to (k - 1)))
      first_step = ap (first p) (to-entry h k s within) ∙ first-snoc p (up_to (k - 1)) (entry h k) ∙ rw size

  -- ---- up to a main number

  module _ (k left rest : ℕ) (s : 1 ≤ k) (l : k ≤ n) (some : 1 ≤ left) (after : rest ≡ (if main (entry h k) then left - 1 otherwise left)) where
    pub main-stops : rest ≡ 0 → main_from k left (from k) ≡ k
    unfolding if◌then◌otherwise◌
    main-stops q = rw (from-k k s l, main-turn k left rest (entry h k) (from (k + 1)) some after, eq-eqb rest 0 q)

    pub main-goes : rest ≢ 0 → main_from k left (from k) ≡ main_from (k + 1) rest (from (k + 1))
    unfolding if◌then◌otherwise◌
    main-goes q = rw (from-k k s l, main-turn k left rest (entry h k) (from (k + 1)) some after, ne_eqb rest 0 q, add-one)

  -- the items before number m have fewer main ones than m
  module _ (m : ℕ) (some : 1 ≤ m) where
    fewer : main_number h (m - 1) < m
    fewer = omega (arith, count-few main (take (m - 1) h), length-take (m - 1) h)

    pub main-left : 1 ≤ m - main_number h (m - 1)
    main-left = omega (arith, fewer)

    pub main-begins : main_from 1 m h ≡ main_from m (m - main_number h (m - 1)) (from m)
    main-begins =
        let here : 1 + (m - 1) ≡ m = omega arith in
        main-skip 1 m h (m - 1) fewer ∙ ap (λ (k : ℕ). main_from k (m - main_number h (m - 1)) (from m)) here

  pub main-ends : (k left : ℕ) → n < k → main_from k left (from k) ≡ 0
  unfolding main_from
  main-ends k left l = rw (from_past k l)
