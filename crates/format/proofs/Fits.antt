-- Counts of content words: a set of w words and k times a size, tested with no sum and no product. Assumes nothing.
use Prim.Native.Nat.{ℕ, ◌+◌, ◌-◌, ◌*◌, ◌/◌, ◌%◌, ◌≤◌, ◌<◌}
use native.Mathlib.Nat.{div-add-mod', mul-le-mul_right, mul-zero, zero-mod, mod-lt}
use native.Mathlib.Omega.{arith}
use mathlib.Core.Path.{◌≡◌, ap, ◌∙◌}
use mathlib.Core.Bool.{false}
use mathlib.Core.Logic.{by_cases}
use native.Mathlib.Decide.{dec_le}
use lib.Dec.{eqb, ltb}
use borrow.Author.Tests.{eq-eqb, ne_eqb, le-leb, lt-leb, lt-ltb, le-ltb}
use Rattle.model.specs.Types.{set_and_each, fits}

module _ (w s n : ℕ) where
  -- fewer than the set, or than a set and one part
  pub fits-few : n < w → false ≡ fits (set_and_each w s) n
  unfolding fits
  fits-few h = simp (lt-leb (w + s) n (omega arith))

  pub fits-none : w ≤ n → n - w < s → false ≡ fits (set_and_each w s) n
  unfolding fits
  fits-none h l = simp (lt-leb (w + s) n (omega arith))

  module _ (h : w ≤ n) (l : s ≤ n - w) where
    -- a size of 0: only the set
    pub fits-zero : s ≡ 0 → eqb (n - w) 0 ≡ fits (set_and_each w s) n
    unfolding fits
    fits-zero e =
        let most : 32 * w * s ≡ 0 = ap (λ (k : ℕ). 32 * w * k) e ∙ mul-zero (32 * w) in
        by_cases (dec_le n w)
        (λ l.
        let none : n - w ≡ 0 = omega arith in
        let rest : (n - w) % s ≡ 0 = ap (λ (k : ℕ). k % s) none ∙ zero-mod s in
        simp (eq-eqb (n - w) 0 none, le-leb (w + s) n (omega arith), le-leb n (w + 32 * w * s) (omega arith), eq-eqb ((n - w) % s) 0 rest))
        (λ l. simp (ne_eqb (n - w) 0 (λ q. omega arith), le-leb (w + s) n (omega arith), lt-leb n (w + 32 * w * s) (omega arith)))

    -- at least one part
    pub some-parts : 0 < s → 1 ≤ (n - w) / s
    some-parts z =
        let k = (n - w) / s in
        let split = div-add-mod' (n - w) s in
        by_cases (dec_le 1 k) (λ m. m) (λ m. let none : k ≡ 0 = omega arith in absurd (omega (arith, ap (◌* s) none, mod-lt (n - w) z)))

    -- a multiple: as often as the set has numbers
    pub fits_each : 0 < s → (n - w) % s ≡ 0 → ltb (((n - w) / s - 1) / 32) w ≡ fits (set_and_each w s) n
    unfolding fits
    fits_each z e =
        let k = (n - w) / s in
        let whole = div-add-mod' (n - w) s in
        by_cases (dec_le k (32 * w))
        (λ m.
        let most : k * s ≤ 32 * w * s = mul-le-mul_right s m in
        let some : 1 ≤ k = some-parts z in
        simp (lt-ltb ((k - 1) / 32) w (omega arith), le-leb (w + s) n (omega arith), le-leb n (w + 32 * w * s) (omega arith), eq-eqb ((n - w) % s) 0 e))
        (λ m.
        let past : 32 * w + 1 ≤ k = omega arith in
        let more = mul-le-mul_right s past in
        simp (le-ltb ((k - 1) / 32) w (omega arith), le-leb (w + s) n (omega arith), lt-leb n (w + 32 * w * s) (omega arith)))

    -- no multiple
    pub fits_not : ((n - w) % s ≡ 0 → ⊥) → false ≡ fits (set_and_each w s) n
    unfolding fits
    fits_not e =
        by_cases (dec_le n (w + 32 * w * s))
        (λ m. simp (le-leb (w + s) n (omega arith), le-leb n (w + 32 * w * s) m, ne_eqb ((n - w) % s) 0 e))
        (λ m. simp (le-leb (w + s) n (omega arith), lt-leb n (w + 32 * w * s) (omega arith)))
