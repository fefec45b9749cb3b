-- What the search leaves of the roll's pairs: those before have smaller numbers than the voter's, those behind have larger ones. Each look
-- halves what is left, so 12 looks suffice. Assumes nothing.
use Prim.Native.Nat.{ℕ, zero, suc, ◌+◌, ◌-◌, ◌*◌, ◌/◌, ◌^◌, ◌≤◌, ◌<◌}
use native.Mathlib.Nat.{not-suc-le-zero}
use native.Mathlib.Numerals.{unary_clauses}
use native.Mathlib.Decide.{dec_le}
use native.Mathlib.Omega.{arith}
use mathlib.Core.Path.{◌≡◌, sym, ap, ◌∙◌}
use mathlib.Core.Logic.{by_cases}
use mathlib.Core.Bool.{false}
use mathlib.Core.List.{List, []}
use lib.ListN.{length, get_or, take, drop, length-drop}
use Rattle.std.proofs.lemmas.List.{get_or-drop, get_or-take, length-take-le}
use lib.Dec.{eqb, eqb→eq}
use Rattle.std.proofs.Math.Logic.{∥∥₁_elim}
use Rattle.std.proofs.Props.{props}
use Rattle.std.specs.Simd.{first_chunks}
use Rattle.model.specs.Roll.{electors, GoodRoll, on_roll}
use Rattle.model.proofs.Tests.{by-test, passes, is_true, is_false, eq→eqb}
use Rattle.model.proofs.Roll.{good-roll, good-rising, one_right, on-roll}
use Rattle.roll.proofs.Rise.{pair-word}

pub good-had : (roll : List ℕ) → ∥ GoodRoll roll ∥₁ → GoodRoll roll
good-had roll t = ∥∥₁_elim t (hlevel props) (λ g. g)

-- ---- how many looks are left

half-less : (a b n : ℕ) → 2 * b ≤ a → 1 ≤ a → a < 2 ^ n → b < 2 ^ (n - 1)
half-less a b zero l s m = absurd (omega arith)
half-less a b (suc n) l s m = let e : suc n - 1 ≡ n = omega arith in rw e (omega (arith, simp unary_clauses at m))

-- ---- what is left: pairs of the roll, from number low on

pub record Left (roll : List ℕ) (voter looks : ℕ) (left : List (List ℕ)) (low : ℕ) : Type 0 where
  pub within : low + length left ≤ length roll / 2
  pub here : (k j : ℕ) (d : List ℕ) → k < length left → j < 2 → get_or (get_or left k d) j 0 ≡ get_or roll (2 * (low + k) + j) 0
  pub less : (k : ℕ) → k < low → get_or roll (2 * k) 0 < voter
  pub more : (k : ℕ) → low + length left ≤ k → k < length roll / 2 → voter < get_or roll (2 * k) 0
  pub few : length left < 2 ^ looks

pub left-all : (roll : List ℕ) (voter : ℕ) (pairs : List (List ℕ)) → ∥ GoodRoll roll ∥₁ → pairs ≡ first_chunks 2 (length roll / 2) roll
    → length pairs ≡ length roll / 2 → Left roll voter 12 pairs 0
left-all roll voter pairs good e n = record {
  within = omega arith;
  here = λ k j d l m.
      let at : 2 * k + j ≡ 2 * (0 + k) + j = omega arith in
      ap (λ (ps : List (List ℕ)). get_or (get_or ps k d) j 0) e ∙ pair-word (length roll / 2) roll k j d (omega arith) m ∙ ap (λ (i : ℕ). get_or roll i 0) at;
  less = λ k l. absurd (not-suc-le-zero l);
  more = λ k l m. absurd (omega arith);
  few = let (even, few, rises) = (good-roll roll).0 (good-had roll good) in omega arith;
}

module _ {roll : List ℕ} {voter looks : ℕ} {left : List (List ℕ)} {low : ℕ} (r : Left roll voter looks left low) where
  pub left-none : length left ≡ 0 → (weight : ℕ) → false ≡ on_roll roll voter weight
  left-none z weight =
      sym (is_false _ (λ t.
      let (p, (inside, same, _)) = (on-roll roll voter weight).0 t in
      by_cases (dec_le (p + 1) low) (λ d. omega (arith, r.less p (omega arith))) (λ d. omega (arith, r.more p (omega arith) (omega arith)))))

  -- the pair in its middle
  module _ (pair : List ℕ) (some : length left / 2 < length left) (at : (d : List ℕ) → pair ≡ get_or left (length left / 2) d) where
    abbrev mid : ℕ
    mid = length left / 2

    abbrev middle : ℕ
    middle = low + mid

    inside : middle < length roll / 2
    inside = omega (arith, r.within)

    pair-here : (j : ℕ) → j < 2 → get_or pair j 0 ≡ get_or roll (2 * middle + j) 0
    pair-here j l = ap (λ (p : List ℕ). get_or p j 0) (at []) ∙ r.here mid j [] some l

    number-here : get_or pair 0 0 ≡ get_or roll (2 * middle) 0
    number-here = pair-here 0 (omega arith) ∙ let e : 2 * middle + 0 ≡ 2 * middle = omega arith in ap (λ (i : ℕ). get_or roll i 0) e

    module _ (good : ∥ GoodRoll roll ∥₁) where
      less-before : (j k : ℕ) → j < k → k < length roll / 2 → get_or roll (2 * j) 0 < get_or roll (2 * k) 0
      less-before j k l m = let (even, few, rises) = (good-roll roll).0 (good-had roll good) in rises j k l (omega arith)

      -- the voter's one pair has the voter's one weight
      pub left-found : get_or pair 0 0 ≡ voter → (weight : ℕ) → eqb (get_or pair 1 0) weight ≡ on_roll roll voter weight
      unfolding on_roll
      left-found q weight =
          let w = get_or pair 1 0 in
          let here = (on-roll roll voter w).1 (middle, (omega (arith, inside), sym number-here ∙ q, sym (pair-here 1 (omega arith)))) in
          let rising = good-rising roll (good-had roll good) in
          by-test (eqb w weight)
          (λ e. e ∙ sym (is_true _ (rw (eqb→eq w weight (passes e)) at here)))
          (λ e. e ∙ sym (is_false _ (λ t. rw e at (eq→eqb w weight (one_right voter w weight (electors roll) rising here t)))))

      pub left_after : get_or pair 0 0 < voter → Left roll voter (looks - 1) (drop (mid + 1) left) (middle + 1)
      left_after l =
          let rest : length (drop (mid + 1) left) ≡ length left - (mid + 1) = length-drop (mid + 1) left in
          let below : get_or roll (2 * middle) 0 < voter = rw number-here at l in
          record {
            within = omega (arith, r.within);
            here = λ k j d m n.
                let place : 2 * (low + (mid + 1 + k)) + j ≡ 2 * (middle + 1 + k) + j = omega arith in
                ap (λ (p : List ℕ). get_or p j 0) (get_or-drop (mid + 1) left k d) ∙ r.here (mid + 1 + k) j d (omega arith) n
                ∙ ap (λ (i : ℕ). get_or roll i 0) place;
            less = λ k m. by_cases (dec_le middle k) (λ d. let e : k ≡ middle = omega arith in rw e below) (λ d. omega (arith, less-before k middle (omega arith) inside));
            more = λ k m n. r.more k (omega arith) n;
            few = rw rest (half-less (length left) _ looks (omega arith) (omega arith) r.few);
          }

      pub left-before : voter < get_or pair 0 0 → Left roll voter (looks - 1) (take mid left) low
      left-before l =
          let rest : length (take mid left) ≡ mid = length-take-le mid left (omega arith) in
          let above : voter < get_or roll (2 * middle) 0 = rw number-here at l in
          record {
            within = omega (arith, inside);
            here = λ k j d m n. ap (λ (p : List ℕ). get_or p j 0) (get_or-take mid left k d (omega arith)) ∙ r.here k j d (omega arith) n;
            less = r.less;
            more = λ k m n. by_cases (dec_le k middle) (λ d. let e : k ≡ middle = omega arith in rw e above) (λ d. omega (arith, less-before middle k (omega arith) n));
            few = rw rest (half-less (length left) _ looks (omega arith) (omega arith) r.few);
          }
