-- Laws of decimal digits: how many there are, and the last of them. Assumes nothing.
use Prim.Native.Nat.{ℕ, zero, suc, ◌+◌, ◌/◌, ◌%◌, ◌^◌, ◌≤◌, ◌<◌}
use native.Mathlib.Omega.{arith}
use mathlib.Core.Path.{◌≡◌, refl, sym, ap}
use mathlib.Core.List.{List, [], ◌∷◌, ◌++◌, append-nil}
use lib.ListN.{length}
use borrow.Author.Tests.{lt-ltb, le-ltb}
use Rattle.std.specs.Fmt as std
use Rattle.std.proofs.lemmas.Fmt.{decimal_by_steps}
use Rattle.model.specs.Program.{space, digit, digits, decimal, spaced}
use Rattle.text.specs.declared.writer.Writer.{Writer}
use Rattle.text.specs.Put.{Writes}
use Rattle.model.proofs.Decimal.{enough, digits_same, length-decimal}
use Rattle.text.proofs.Placed.{writes_then}

-- a number behind a space
pub spaced-one : (n : ℕ) → spaced (n ∷ []) ≡ space ∷ decimal n
unfolding spaced
spaced-one n = ap (λ (ds : List ℕ). space ∷ ds) (append-nil (decimal n))

-- a word behind a space, and a number of two words
pub length-word : (n : ℕ) → n < 2 ^ 32 → length (spaced (n ∷ [])) ≤ 11
length-word n l = rw spaced-one (omega (arith, length-decimal 9 n (omega arith)))

pub length-pair : (n : ℕ) → n < 2 ^ 64 → length (spaced (n ∷ [])) ≤ 21
length-pair n l = rw spaced-one (omega (arith, length-decimal 19 n (omega arith)))

-- one digit, and the last digit of more
pub decimal-one : (n : ℕ) → n < 10 → decimal n ≡ digit n ∷ []
unfolding digits
decimal-one zero l = refl
decimal-one (suc k) l = rw (lt-ltb (suc k) 10 l)

pub decimal-more : (n : ℕ) → 10 ≤ n → decimal n ≡ decimal (n / 10) ++ (digit (n % 10) ∷ [])
unfolding digits
decimal-more zero l = absurd (omega arith)
decimal-more (suc k) l = rw (le-ltb (suc k) 10 l, digits_same k (suc k / 10) (suc k / 10) (omega (arith, enough k)) (enough (suc k / 10)))

pub length-spaced : (n : ℕ) → length (spaced (n ∷ [])) ≡ 1 + length (decimal n)
length-spaced n = rw spaced-one (omega arith)

-- the library's digits
pub decimal-is : (n : ℕ) → n < 2 ^ 64 → std.decimal n ≡ decimal n
decimal-is =
    decimal_by_steps (λ n ds. ds ≡ decimal n) (λ n l. sym (decimal-one n l))
    (λ n ds l e. rw e (sym (decimal-more n l)))

-- ---- a number put into bytes

pub put-spaced : {u v w : Writer} (n : ℕ) → Writes u (space ∷ []) v → Writes v (decimal n) w → Writes u (spaced (n ∷ [])) w
put-spaced n p q = rw spaced-one (writes_then p q)
