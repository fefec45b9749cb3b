-- A test that every byte of a text passes, among them the decimal digits of a number. Assumes nothing.
use Prim.Native.Nat.{ℕ, zero, suc, ◌/◌, ◌%◌, ◌<◌}
use native.Mathlib.Nat.{le_of_suc-le-suc, not-suc-le-zero}
use native.Mathlib.Omega.{arith}
use mathlib.Core.Path.{◌≡◌, refl, sym, ap, ◌∙◌}
use mathlib.Core.Bool.{Bool, true, ◌&&◌, and_assoc}
use mathlib.Core.List.{List, [], ◌∷◌, ◌++◌}
use lib.ListN.{length, get_or}
use lib.Dec.{T, ltb, ltb→lt}
use Rattle.model.specs.Words.{every_below}
use Rattle.model.specs.Program.{digit, digits, decimal}
use Rattle.model.proofs.Tests.{and-iff, by-if}
use Rattle.model.proofs.Sets.{every-below}

unfoldable pub all : (ℕ → Bool) → List ℕ → Bool
all p [] = true
all p (b ∷ bs) = p b && all p bs

module _ (p : ℕ → Bool) where
  pub all_append : (a b : List ℕ) → all p (a ++ b) ≡ (all p a && all p b)
  unfolding all
  all_append [] b = refl
  all_append (x ∷ a) b = ap (p x &&◌) (all_append a b) ∙ sym (and_assoc (p x) (all p a) (all p b))

  pub all_join : (a b : List ℕ) → T (all p a) → T (all p b) → T (all p (a ++ b))
  all_join a b s t = rw all_append ((and-iff (all p a) (all p b)).1 (s, t))

  pub all_first : (b : ℕ) (bs : List ℕ) → T (all p (b ∷ bs)) → T (p b) × T (all p bs)
  unfolding all
  all_first b bs = (and-iff (p b) (all p bs)).0

  pub all-at : (bs : List ℕ) (k : ℕ) → T (all p bs) → k < length bs → T (p (get_or bs k 0))
  all-at [] k t l = absurd (not-suc-le-zero l)
  all-at (b ∷ bs) zero t l = (all_first b bs t).0
  all-at (b ∷ bs) (suc k) t l = all-at bs k (all_first b bs t).1 (le_of_suc-le-suc l)

  pub all_map : (q : ℕ → Bool) → ((b : ℕ) → T (p b) → T (q b)) → (bs : List ℕ) → T (all p bs) → T (all q bs)
  unfolding all
  all_map q g [] t = tt
  all_map q g (b ∷ bs) t = let (first, rest) = all_first b bs t in (and-iff (q b) (all q bs)).1 (g b first, all_map q g bs rest)

-- ---- decimal digits: each passes a test that the ten pass

module _ (p : ℕ → Bool) (ten : T (every_below 10 (λ d. p (digit d)))) where
  all-digit : (d : ℕ) → d < 10 → T (all p (digit d ∷ []))
  unfolding all
  all-digit d l = (and-iff (p (digit d)) true).1 (every-below 10 (λ k. p (digit k)) ten d l, tt)

  all_digits : (k n : ℕ) → T (all p (digits k n))
  unfolding digits
  all_digits zero n = all-digit (n % 10) (omega arith)
  all_digits (suc k) n =
      by-if (λ ds. T (all p ds)) (ltb n 10) _ _ (λ t. all-digit n (ltb→lt n 10 t))
      (λ t. all_join p (digits k (n / 10)) _ (all_digits k (n / 10)) (all-digit (n % 10) (omega arith)))

  pub all-decimal : (n : ℕ) → T (all p (decimal n))
  all-decimal n = all_digits n n
