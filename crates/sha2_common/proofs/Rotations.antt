-- The functions of FIPS 180-4, 4.1.2 and 4.1.3, in forms that take fewer instructions than the standard's, at words of any width.
use mathlib.Core.Path.{◌≡◌, refl, sym, ap, ap₂, ◌∙◌, subst}
use mathlib.Core.Logic.{⊎_elim}
use Prim.Native.Nat.{ℕ, zero, suc, ◌+◌, ◌-◌, ◌*◌, ◌/◌, ◌%◌, ◌^◌, ◌≤◌, ◌<◌}
use native.Mathlib.Nat.{add_assoc, add_comm, add-mul, mul_assoc, add-zero, pow-suc, mod-lt, mul-mod_left, lt_of_le_of_lt, eq-or-lt_of_le}
use native.Mathlib.Omega.{arith}
use lib.Arith.{lt-one}
use lib.Bits.{bit_and, bit_or, bit_xor, or_lt, xor_lt, or_shifted_r, xor_block, and_shr, xor_shr, and_mod, xor_mod}
use lib.Pow.{pow_pos, pow-add, shr_lt, shr_le, shl-shr, shr-shr, split, high, low, mod-pow-add}

-- ---- identities of digits

-- what holds of 0 and 1 holds of a digit
digit : (P : ℕ → Type 0) → P 0 → P 1 → (x : ℕ) → P (x % 2)
digit P z o x = ⊎_elim (λ e. subst P (sym e) o) (λ q. subst P (sym (lt-one q)) z) (eq-or-lt_of_le {n = x % 2} {m = 1} (omega arith))

-- two numbers are equal when their halves and their lowest digits are
halves : (a b : ℕ) → a / 2 ≡ b / 2 → a % 2 ≡ b % 2 → a ≡ b
halves a b e d = omega arith

half_lt : (k a : ℕ) → a < 2 ^ suc k → a / 2 < 2 ^ k
half_lt k a p = let e = pow-suc 2 k in omega (arith, e)

half-xor : (a b : ℕ) → bit_xor a b / 2 ≡ bit_xor (a / 2) (b / 2)
half-xor a b = xor_shr a b 1

half-and : (a b : ℕ) → bit_and a b / 2 ≡ bit_and (a / 2) (b / 2)
half-and a b = and_shr a b 1

odd-xor : (a b : ℕ) → bit_xor a b % 2 ≡ bit_xor (a % 2) (b % 2)
odd-xor a b = xor_mod a b 1

odd-and : (a b : ℕ) → bit_and a b % 2 ≡ bit_and (a % 2) (b % 2)
odd-and a b = and_mod a b 1

ruleset half = (half-xor, half-and)

ruleset odd = (odd-xor, odd-and)

-- induction on the digits of three numbers
three : (P : ℕ → ℕ → ℕ → Type 0) → P 0 0 0 → ((a b c : ℕ) → P (a / 2) (b / 2) (c / 2) → P a b c) → (k a b c : ℕ)
    → a < 2 ^ k → b < 2 ^ k → c < 2 ^ k → P a b c
three P z s zero a b c p q r =
    subst (λ (n : ℕ). P n b c) (sym (lt-one p))
    (subst (λ (n : ℕ). P 0 n c) (sym (lt-one q)) (subst (λ (n : ℕ). P 0 0 n) (sym (lt-one r)) z))
three P z s (suc k) a b c p q r = s a b c (three P z s k (a / 2) (b / 2) (c / 2) (half_lt k a p) (half_lt k b q) (half_lt k c r))

-- three digits, by their eight cases
eight : (P : ℕ → ℕ → ℕ → Type 0) → P 0 0 0 → P 0 0 1 → P 0 1 0 → P 0 1 1 → P 1 0 0 → P 1 0 1 → P 1 1 0 → P 1 1 1 → (a b c : ℕ)
    → P (a % 2) (b % 2) (c % 2)
eight P p₀ p₁ p₂ p₃ p₄ p₅ p₆ p₇ a b c =
    digit (λ (x : ℕ). P x (b % 2) (c % 2))
    (digit (λ (y : ℕ). P 0 y (c % 2)) (digit (P 0 0) p₀ p₁ c) (digit (P 0 1) p₂ p₃ c) b)
    (digit (λ (y : ℕ). P 1 y (c % 2)) (digit (P 1 0) p₄ p₅ c) (digit (P 1 1) p₆ p₇ c) b) a

-- digit by digit
abbrev Bitwise : (ℕ → ℕ → ℕ → ℕ) → Type 0
Bitwise f = (a b c : ℕ) → (f a b c / 2 ≡ f (a / 2) (b / 2) (c / 2)) × (f a b c % 2 ≡ f (a % 2) (b % 2) (c % 2))

-- an equation that holds of digits
module _ (f g : ℕ → ℕ → ℕ → ℕ) where
  abbrev Same : ℕ → ℕ → ℕ → Type 0
  Same a b c = f a b c ≡ g a b c

  by_digits : Bitwise f → Bitwise g → Same 0 0 0 → Same 0 0 1 → Same 0 1 0 → Same 0 1 1 → Same 1 0 0 → Same 1 0 1 → Same 1 1 0 → Same 1 1 1
      → (k a b c : ℕ) → a < 2 ^ k → b < 2 ^ k → c < 2 ^ k → Same a b c
  by_digits i j p₀ p₁ p₂ p₃ p₄ p₅ p₆ p₇ =
      three Same p₀
      (λ a b c e.
      let h = i a b c in
      let l = j a b c in
      halves (f a b c) (g a b c) (h.0 ∙ e ∙ sym l.0) (h.1 ∙ eight Same p₀ p₁ p₂ p₃ p₄ p₅ p₆ p₇ a b c ∙ sym l.1))

xor_assoc : (k a b c : ℕ) → a < 2 ^ k → b < 2 ^ k → c < 2 ^ k → bit_xor (bit_xor a b) c ≡ bit_xor a (bit_xor b c)
xor_assoc =
    by_digits (λ a b c. bit_xor (bit_xor a b) c) (λ a b c. bit_xor a (bit_xor b c))
    (λ a b c. (simp half, simp odd)) (λ a b c. (simp half, simp odd)) refl refl refl refl refl refl refl refl

-- Maj with one part of it the same as in the round before
pub maj-form : (k x y z : ℕ) → x < 2 ^ k → y < 2 ^ k → z < 2 ^ k
    → bit_xor (bit_and (bit_xor x y) (bit_xor y z)) y ≡ bit_xor (bit_xor (bit_and x y) (bit_and x z)) (bit_and y z)
maj-form =
    by_digits (λ x y z. bit_xor (bit_and (bit_xor x y) (bit_xor y z)) y) (λ x y z. bit_xor (bit_xor (bit_and x y) (bit_and x z)) (bit_and y z))
    (λ x y z. (simp half, simp odd)) (λ x y z. (simp half, simp odd)) refl refl refl refl refl refl refl refl

-- Ch with no complement
complement-and : (k x z : ℕ) → x < 2 ^ k → z < 2 ^ k → bit_and ((2 ^ k - 1) - x) z ≡ bit_xor z (bit_and x z)
complement-and zero x z p q = rw (lt-one p, lt-one q)
complement-and (suc k) x z p q =
    halves
    (bit_and ((2 ^ suc k - 1) - x) z) (bit_xor z (bit_and x z))
    (half-and ((2 ^ suc k - 1) - x) z ∙ ap (λ (n : ℕ). bit_and n (z / 2)) h
    ∙ complement-and k (x / 2) (z / 2) (half_lt k x p) (half_lt k z q) ∙ simp half)
    (odd-and ((2 ^ suc k - 1) - x) z ∙ ap (λ (n : ℕ). bit_and n (z % 2)) o ∙ each ∙ simp odd)
  where
    h : ((2 ^ suc k - 1) - x) / 2 ≡ (2 ^ k - 1) - x / 2
    h = let e = pow-suc 2 k in omega (arith, e)

    o : ((2 ^ suc k - 1) - x) % 2 ≡ 1 - x % 2
    o = let e = pow-suc 2 k in omega (arith, e)

    each : bit_and (1 - x % 2) (z % 2) ≡ bit_xor (z % 2) (bit_and (x % 2) (z % 2))
    each = eight (λ (a b c : ℕ). bit_and (1 - a) b ≡ bit_xor b (bit_and a b)) refl refl refl refl refl refl refl refl x z 0

pub ch-form : (k x y z : ℕ) → x < 2 ^ k → y < 2 ^ k → z < 2 ^ k
    → bit_xor (bit_and (bit_xor y z) x) z ≡ bit_xor (bit_and x y) (bit_and ((2 ^ k - 1) - x) z)
ch-form k x y z p q r =
    by_digits (λ x y z. bit_xor (bit_and (bit_xor y z) x) z) (λ x y z. bit_xor (bit_and x y) (bit_xor z (bit_and x z)))
    (λ x y z. (simp half, simp odd)) (λ x y z. (simp half, simp odd)) refl refl refl refl refl refl refl refl k x y z p q r
    ∙ ap (bit_xor (bit_and x y)) (sym (complement-and k x z p r))

-- ---- the low n bits of n + m above the others

abbrev parts : ℕ → ℕ → ℕ → ℕ
parts n m x = (x % 2 ^ n) * 2 ^ m + x / 2 ^ n

module _ (a b c x : ℕ) where
  abbrev u : ℕ
  u = x / 2 ^ b

  abbrev r : ℕ
  r = x % 2 ^ b

  again : parts b (a + c) x ≡ (r * 2 ^ c + u / 2 ^ a) * 2 ^ a + u % 2 ^ a
  again =
      let e = split u a in
      let d : 2 ^ (a + c) ≡ 2 ^ c * 2 ^ a = ap (λ (n : ℕ). 2 ^ n) (add_comm a c) ∙ pow-add 2 c a in
      ap₂ (λ (n i : ℕ). r * n + i) d (sym e) ∙ ap (λ (n : ℕ). n + (u / 2 ^ a * 2 ^ a + u % 2 ^ a)) (sym (mul_assoc r (2 ^ c) (2 ^ a)))
      ∙ sym (add_assoc (r * 2 ^ c * 2 ^ a) (u / 2 ^ a * 2 ^ a) (u % 2 ^ a))
      ∙ ap (λ (n : ℕ). n + u % 2 ^ a) (sym (add-mul (r * 2 ^ c) (u / 2 ^ a) (2 ^ a)))

  whole : parts (a + b) c x ≡ (u % 2 ^ a) * 2 ^ (b + c) + (r * 2 ^ c + u / 2 ^ a)
  whole =
      ap₂ (λ (i j : ℕ). i * 2 ^ c + j) (mod-pow-add x a b) (ap (λ (n : ℕ). x / 2 ^ n) (add_comm a b) ∙ sym (shr-shr x b a))
      ∙ ap (λ (n : ℕ). n + u / 2 ^ a) (add-mul ((u % 2 ^ a) * 2 ^ b) r (2 ^ c))
      ∙ add_assoc ((u % 2 ^ a) * 2 ^ b * 2 ^ c) (r * 2 ^ c) (u / 2 ^ a)
      ∙ ap (λ (n : ℕ). n + (r * 2 ^ c + u / 2 ^ a))
      (mul_assoc (u % 2 ^ a) (2 ^ b) (2 ^ c) ∙ ap (λ (n : ℕ). (u % 2 ^ a) * n) (sym (pow-add 2 b c)))

  parts-parts : parts a (b + c) (parts b (a + c) x) ≡ parts (a + b) c x
  parts-parts =
      ap₂ (λ (i j : ℕ). i * 2 ^ (b + c) + j)
      (ap (λ (n : ℕ). n % 2 ^ a) again ∙ low (r * 2 ^ c + u / 2 ^ a) a (mod-lt u (pow_pos a)))
      (ap (λ (n : ℕ). n / 2 ^ a) again ∙ high (r * 2 ^ c + u / 2 ^ a) a (mod-lt u (pow_pos a)))
      ∙ sym whole

-- ---- rotations of words of w bits

module _ (w : ℕ) where
  -- ROTR n (x)
  abbrev pub rotr : ℕ → ℕ → ℕ
  rotr n x = bit_or (x / 2 ^ n) (x * 2 ^ (w - n) % 2 ^ w)

  rotr-lt : (n x : ℕ) → x < 2 ^ w → rotr n x < 2 ^ w
  rotr-lt n x p = or_lt w (x / 2 ^ n) (x * 2 ^ (w - n) % 2 ^ w) (lt_of_le_of_lt (shr_le x n) p) (mod-lt (x * 2 ^ (w - n)) (pow_pos w))

  module _ (n m : ℕ) (e : n + m ≡ w) where
    raised : (x : ℕ) → x * 2 ^ (w - n) % 2 ^ w ≡ (x % 2 ^ n) * 2 ^ m
    raised x =
        let d : w - n ≡ m = omega (arith, e) in
        ap₂ (λ (i k : ℕ). x * 2 ^ i % 2 ^ k) d (sym e) ∙ mod-pow-add (x * 2 ^ m) n m
        ∙ ap₂ (λ (a b : ℕ). (a % 2 ^ n) * 2 ^ m + b) (shl-shr x m) (mul-mod_left x (2 ^ m)) ∙ add-zero ((x % 2 ^ n) * 2 ^ m)

    high_lt : (x : ℕ) → x < 2 ^ w → x / 2 ^ n < 2 ^ m
    high_lt x p = shr_lt m n (subst (λ (k : ℕ). x < 2 ^ k) (sym e ∙ add_comm n m) p)

    rotr-parts : (x : ℕ) → x < 2 ^ w → rotr n x ≡ parts n m x
    rotr-parts x p = ap (bit_or (x / 2 ^ n)) (raised x) ∙ or_shifted_r (x % 2 ^ n) m (x / 2 ^ n) (high_lt x p)

    xor-parts : (x y : ℕ) → x < 2 ^ w → y < 2 ^ w → rotr n (bit_xor x y) ≡ bit_xor (rotr n x) (rotr n y)
    xor-parts x y p q =
        rotr-parts (bit_xor x y) (xor_lt w x y p q) ∙ ap₂ (λ (a b : ℕ). a * 2 ^ m + b) (xor_mod x y n) (xor_shr x y n)
        ∙ sym (xor_block m (x % 2 ^ n) (y % 2 ^ n) (x / 2 ^ n) (y / 2 ^ n) (high_lt x p) (high_lt y q))
        ∙ sym (ap₂ bit_xor (rotr-parts x p) (rotr-parts y q))

  rotr-xor : (n x y : ℕ) → n ≤ w → x < 2 ^ w → y < 2 ^ w → rotr n (bit_xor x y) ≡ bit_xor (rotr n x) (rotr n y)
  rotr-xor n x y l = xor-parts n (w - n) (omega arith) x y

  rotr-rotr : (a b x : ℕ) → a + b ≤ w → x < 2 ^ w → rotr a (rotr b x) ≡ rotr (a + b) x
  rotr-rotr a b x l p =
      let c = w - (a + b) in
      rotr-parts a (b + c) (omega arith) (rotr b x) (rotr-lt b x p)
      ∙ ap (parts a (b + c)) (rotr-parts b (a + c) (omega arith) x p) ∙ parts-parts a b c x ∙ sym (rotr-parts (a + b) c (omega arith) x p)

  -- one rotation in place of the second of two
  two-rotations : (a b x : ℕ) → a + b ≤ w → x < 2 ^ w → {u r : ℕ} → u ≡ rotr b x → r ≡ rotr a (bit_xor x u)
      → r ≡ bit_xor (rotr a x) (rotr (a + b) x)
  two-rotations a b x l p e d =
      d ∙ ap (λ (n : ℕ). rotr a (bit_xor x n)) e ∙ rotr-xor a x (rotr b x) (omega arith) p (rotr-lt b x p)
      ∙ ap (bit_xor (rotr a x)) (rotr-rotr a b x l p)

  -- σ: beside a shift
  pub two-rotations-shift : (a b c x : ℕ) → a + b ≤ w → x < 2 ^ w → {u r : ℕ} → u ≡ rotr b x → r ≡ rotr a (bit_xor x u)
      → bit_xor r (x / 2 ^ c) ≡ bit_xor (bit_xor (rotr a x) (rotr (a + b) x)) (x / 2 ^ c)
  two-rotations-shift a b c x l p e d = ap (λ (n : ℕ). bit_xor n (x / 2 ^ c)) (two-rotations a b x l p e d)

  -- Σ: and in place of the third of three
  pub three-rotations : (a b c x : ℕ) → a + b + c ≤ w → x < 2 ^ w → {u v r : ℕ}
      → u ≡ rotr c x → v ≡ rotr b (bit_xor x u) → r ≡ rotr a (bit_xor x v)
      → r ≡ bit_xor (bit_xor (rotr a x) (rotr (a + b) x)) (rotr (a + b + c) x)
  three-rotations a b c x l p e d f =
      let q = rotr-lt b x p in
      let s = rotr-lt (b + c) x p in
      f ∙ ap (λ (n : ℕ). rotr a (bit_xor x n)) (two-rotations b c x (omega arith) p e d)
      ∙ rotr-xor a x (bit_xor (rotr b x) (rotr (b + c) x)) (omega arith) p (xor_lt w (rotr b x) (rotr (b + c) x) q s)
      ∙ ap (bit_xor (rotr a x))
      (rotr-xor a (rotr b x) (rotr (b + c) x) (omega arith) q s
      ∙ ap₂ bit_xor (rotr-rotr a b x (omega arith) p)
      (rotr-rotr a (b + c) x (omega arith) p ∙ ap (λ (n : ℕ). rotr n x) (sym (add_assoc a b c))))
      ∙ sym (xor_assoc w (rotr a x) (rotr (a + b) x) (rotr (a + b + c) x) (rotr-lt a x p) (rotr-lt (a + b) x p) (rotr-lt (a + b + c) x p))
