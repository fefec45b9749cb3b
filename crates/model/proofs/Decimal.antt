-- Decimal digits: they have the number's value, no zero in front, are the same for every bound on their number that is large enough, and how many
-- they are at most.
-- Paper: "Numbers are decimal". Assumes nothing.
use Prim.Native.Nat.{ℕ, zero, suc, ◌+◌, ◌-◌, ◌*◌, ◌/◌, ◌%◌, ◌^◌, ◌≤◌, ◌<◌}
use native.Mathlib.Omega.{arith}
use mathlib.Core.Path.{◌≡◌, refl, sym, ap, ◌∙◌}
use mathlib.Core.Logic.{◌≢◌}
use mathlib.Core.List.{List, [], ◌∷◌, ◌++◌}
use lib.ListN.{length, get_or, length-append, get_or-append}
use lib.Dec.{ltb}
use borrow.Author.Tests.{ltb-false, lt-ltb}
use Rattle.model.specs.Program.{digit, digits, decimal, value_from}
use Rattle.model.proofs.Tests.{by-test, by-if}

-- a number has at most as many digits as itself, and one
pub enough : (n : ℕ) → n < 10 ^ suc n
enough zero = omega arith
enough (suc n) = omega (arith, enough n)

value-append : (n : ℕ) (ds es : List ℕ) → value_from n (ds ++ es) ≡ value_from (value_from n ds) es
unfolding value_from
value-append n [] es = refl
value-append n (d ∷ ds) es = value-append (n * 10 + (d - digit 0)) ds es

one-digit : (n : ℕ) → value_from 0 (digit n ∷ []) ≡ n
unfolding value_from
one-digit n = omega arith

last-digit : (n : ℕ) → n < 10 ^ 1 → value_from 0 (digit (n % 10) ∷ []) ≡ n
unfolding value_from
last-digit n l = omega arith

next-digit : (n : ℕ) → value_from (n / 10) (digit (n % 10) ∷ []) ≡ n
unfolding value_from
next-digit n = omega arith

shorter : (k n : ℕ) → n < 10 ^ suc (suc k) → n / 10 < 10 ^ suc k
shorter k n l = omega arith

digits_value : (k n : ℕ) → n < 10 ^ suc k → value_from 0 (digits k n) ≡ n
unfolding digits value_from
digits_value zero n l = last-digit n l
digits_value (suc k) n l =
    by-if (λ (ds : List ℕ). value_from 0 ds ≡ n) (ltb n 10) _ _ (λ t. one-digit n)
    (λ t. value-append 0 (digits k (n / 10)) _ ∙ ap (λ (m : ℕ). value_from m (digit (n % 10) ∷ [])) (digits_value k (n / 10) (shorter k n l)) ∙ next-digit n)

digits-some : (k n : ℕ) → 1 ≤ length (digits k n)
unfolding digits
digits-some zero n = omega arith
digits-some (suc k) n = by-test (ltb n 10) (λ q. rw q (omega arith)) (λ q. rw q (simp length-append (omega arith)))

digits-lead : (k n : ℕ) → n < 10 ^ suc k → 1 ≤ n → get_or (digits k n) 0 0 ≢ 48
unfolding digits
digits-lead zero n l o e = omega arith
digits-lead (suc k) n l o e =
    by-test (ltb n 10)
    (λ q. let lead = rw q at e in omega arith)
    (λ q. digits-lead k (n / 10) (shorter k n l) (omega (arith, ltb-false n 10 q)) (rw (q, get_or-append (digits k (n / 10)) _ 0 0 (digits-some k (n / 10))) at e))

-- one digit
digits-short : (k n : ℕ) → n < 10 → digits k n ≡ digit n ∷ []
unfolding digits
digits-short zero n l = let e : n % 10 ≡ n = omega arith in rw e
digits-short (suc k) n l = rw (lt-ltb n 10 l)

-- any number of digits that is large enough gives the same
pub digits_same : (j k n : ℕ) → n < 10 ^ suc j → n < 10 ^ suc k → digits j n ≡ digits k n
unfolding digits
digits_same zero k n l m = digits-short 0 n (omega arith) ∙ sym (digits-short k n (omega arith))
digits_same (suc j) zero n l m = digits-short (suc j) n (omega arith) ∙ sym (digits-short 0 n (omega arith))
digits_same (suc j) (suc k) n l m = rw (digits_same j k (n / 10) (omega arith) (omega arith))

-- the digits have the number's value
pub decimal-value : (n : ℕ) → value_from 0 (decimal n) ≡ n
decimal-value n = digits_value n n (enough n)

-- no zero stands in front
pub decimal-lead : (n : ℕ) → 1 ≤ n → get_or (decimal n) 0 0 ≢ digit 0
decimal-lead n = digits-lead n n (enough n)

-- ---- how many there are

length_digits : (k n : ℕ) → length (digits k n) ≤ suc k
unfolding digits
length_digits zero n = omega arith
length_digits (suc k) n =
    by-test (ltb n 10) (λ q. rw q (omega arith)) (λ q. rw q (simp length-append (omega (arith, length_digits k (n / 10)))))

-- a number below 10 ^ (k + 1) has at most k + 1 digits
pub length-decimal : (k n : ℕ) → n < 10 ^ suc k → length (decimal n) ≤ suc k
length-decimal k n l = rw (digits_same n k n (enough n) l) (length_digits k n)
