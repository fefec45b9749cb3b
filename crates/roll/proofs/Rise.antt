-- The roll's words as pairs, and voter numbers that rise from each pair to the next. Assumes nothing.
use Prim.Native.Nat.{ℕ, zero, suc, ◌+◌, ◌*◌, ◌/◌, ◌≤◌, ◌<◌}
use native.Mathlib.Nat.{not-suc-le-zero}
use native.Mathlib.Decide.{dec_le}
use native.Mathlib.Omega.{arith}
use mathlib.Core.Path.{◌≡◌, sym, ap, ◌∙◌}
use mathlib.Core.Logic.{by_cases}
use mathlib.Core.Bool.{Bool, true, false}
use mathlib.Core.List.{List}
use lib.Dec.{ltb}
use borrow.Author.Tests.{ltb-true, ltb-false}
use lib.ListN.{length, get_or, drop}
use Rattle.std.proofs.lemmas.List.{get_or-drop, get_or-take}
use Rattle.std.specs.Option.{option_map}
use Rattle.std.specs.Iterator.Runs.{Run, ItemsMapTo}
use Rattle.std.specs.Iterator.Order.{IsSortedAnswer}
use Rattle.std.specs.Bool.{OnTrue, IsTrue}
use Rattle.std.proofs.Common.{Option, Some, None, Bor}
use Rattle.std.specs.Simd.{first_chunks}
use Rattle.model.specs.Roll.{rising, voter_numbers}
use Rattle.model.proofs.Tests.{is_true, is_false}
use Rattle.model.proofs.Roll.{rising-words, words-rising}

-- word j of pair k
pub pair-word : (n : ℕ) (roll : List ℕ) (k j : ℕ) (d : List ℕ) → k < n → j < 2 → get_or (get_or (first_chunks 2 n roll) k d) j 0 ≡ get_or roll (2 * k + j) 0
pair-word zero roll k j d l m = absurd (not-suc-le-zero l)
pair-word (suc n) roll zero j d l m = get_or-take 2 roll j 0 m ∙ let e : j ≡ 2 * zero + j = omega arith in ap (λ (i : ℕ). get_or roll i 0) e
pair-word (suc n) roll (suc k) j d l m =
    let e : 2 + (2 * k + j) ≡ 2 * suc k + j = omega arith in
    pair-word n (drop 2 roll) k j d (omega arith) m ∙ get_or-drop 2 roll (2 * k + j) 0 ∙ ap (λ (i : ℕ). get_or roll i 0) e

-- a number below the next one each time is below every later one
onward : (f : ℕ → ℕ) (n : ℕ) → ((k : ℕ) → k + 1 < n → f k < f (k + 1)) → (j k : ℕ) → j < k → k < n → f j < f k
onward f n step j zero l m = absurd (not-suc-le-zero l)
onward f n step j (suc k) l m =
    let e : k + 1 ≡ suc k = omega arith in
    let next : f k < f (suc k) = rw e at (step k (omega arith)) in
    by_cases (dec_le k j) (λ d. let q : j ≡ k = omega arith in rw q next) (λ d. omega (arith, next, onward f n step j k (omega arith) (omega arith)))

-- the numbers f of the pairs that were looked at
module _ (roll : List ℕ) (f : ℕ → ℕ) (n : ℕ) (same : (k : ℕ) → k < n → f k ≡ get_or roll (2 * k) 0) where
  pub risen : length roll / 2 ≤ n → ((k : ℕ) → k + 1 < n → f k < f (k + 1)) → true ≡ rising (voter_numbers roll)
  risen all step =
      sym (is_true _ (words-rising roll (λ j k l m. let far : k < n = omega arith in
      rw (← same j (omega arith), ← same k far) (onward f n step j k l far))))

  pub risen-not : n ≤ length roll / 2 → (k : ℕ) → k + 1 < n → f (k + 1) ≤ f k → false ≡ rising (voter_numbers roll)
  risen-not few k l m =
      sym (is_false _ (λ t. let less = rising-words roll t k (k + 1) (omega arith) (omega arith) in
      omega (arith, same k (omega arith), same (k + 1) l)))

-- ---- what the library's test of neighbours answers, over items that it met

abbrev value : {A : Type 0} → Option A → A → A
value None d = d
value (Some x) d = x

-- the item at a place is the one that the list has there, as both ways to read it say
same-item : {A B : Type 0} (v : A → B) (o : Option A) (x : A) (y : B) → option_map (λ z. z) o ≡ Some x → option_map v o ≡ Some y → v x ≡ y
same-item v None x y e q = absurd (cc)
same-item v (Some z) x y e q = ap v (sym (ap (λ o. value o x) e)) ∙ ap (λ o. value o y) q

abbrev pub number : Bor (List ℕ) → ℕ
number pair = get_or pair.now 0 0

module _ {S : Type 0} {steps : S → Option (Bor (List ℕ)) → S → Type 0} (p : Run steps) (roll : List ℕ) (pairs : List (List ℕ)) (met : ItemsMapTo p (λ y. y.now) pairs)
    (all : pairs ≡ first_chunks 2 (length roll / 2) roll) (many : length pairs ≡ length roll / 2) (d : Bor (List ℕ)) where
  abbrev f : ℕ → ℕ
  f k = number (get_or p.items k d)

  same : (k : ℕ) → k < length p.items → f k ≡ get_or roll (2 * k) 0
  same k l =
      let here : k < p.len = omega (arith, p.long) in
      let first : ℕ → ℕ = λ i. get_or roll i 0 in
      let e : 2 * k + 0 ≡ 2 * k = omega arith in
      ap (λ (ws : List ℕ). get_or ws 0 0) (same-item (λ y. y.now) (p.at k) _ _ (p.reads k d here) (met.2 k d.now here))
      ∙ ap (λ (ps : List (List ℕ)). get_or (get_or ps k d.now) 0 0) all
      ∙ pair-word (length roll / 2) roll k 0 d.now (omega (arith, p.long, met.0)) (omega arith)
      ∙ ap first e

  few : length p.items ≤ length roll / 2
  few = omega (arith, p.long, met.0)

  pub sorted : (r : Bool) → OnTrue r (IsTrue p.whole) → IsSortedAnswer (λ x y. ltb (number x) (number y)) p.items r → r ≡ rising (voter_numbers roll)
  sorted true whole answer =
      let n : length p.items ≡ length roll / 2 = omega (arith, p.long, met.1 whole) in
      risen roll f (length p.items) same (omega arith) (λ k l. ltb-true (f k) (f (k + 1)) (answer.1 k d l).1)
  sorted false whole answer =
      let (k, l, rest) = answer.0 in
      risen-not roll f (length p.items) same few k l (ltb-false (f k) (f (k + 1)) (rest d))
