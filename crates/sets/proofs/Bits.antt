-- The numbers of one word of a set: which ones a word has after an operation on words, and tests of all of them as one test of the word, which
-- is how the code makes them. Of 32 bits, `2 ^ 32 - 1 - w` is what the code writes `!w`. Assumes nothing.
use Prim.Native.Nat.{ℕ, zero, suc, ◌+◌, ◌-◌, ◌*◌, ◌/◌, ◌%◌, ◌^◌, ◌≤◌, ◌<◌, zero-le}
use native.Mathlib.Nat.{div-one, zero-div, mod-lt, mod-eq_of_lt, one-mul, pow-suc, div-add-mod', le_of_suc-le-suc, not-suc-le-zero, mul-mod_left, zero-add, mul-div_cancel}
use native.Mathlib.Omega.{arith}
use mathlib.Core.Path.{◌≡◌, refl, sym, ap, ◌∙◌}
use mathlib.Core.Bool.{Bool, not, ◌&&◌, ◌||◌, not-not}
use lib.Arith.{lt-one, digits_div, digits_mod}
use lib.Bits.{bit_and, bit_or, and_shr, or_shr, and_mod, or_mod, and_lt}
use lib.Count.{ones_in, ones, ones_step}
use lib.Dec.{eqb, ltb, eqb-zero-suc, eqb-suc-zero, eqb-suc-suc, leb-suc-zero, leb-suc-suc, lit<}
use lib.Pow.{pow-lt, shr-shr}
use borrow.Author.Tests.{eqb-true, eqb-false, eq-eqb, ne_eqb, lt-ltb}
use Rattle.model.specs.Lists.{◌⇒◌}
use Rattle.model.specs.Words.{set_bits, bit, every_below}
use Rattle.model.proofs.Tests.{by-test, every_below-ext}
use Rattle.model.proofs.Sets.{bit-zero, bit-low, bit-half}

-- ---- the digits of a word

two_pos : 0 < 2
two_pos = lit< tt

by-digit : {X : Type 0} (n : ℕ) → (n % 2 ≡ 0 → X) → (n % 2 ≡ 1 → X) → X
by-digit n even odd =
    by-test (eqb (n % 2) 1)
    (λ q. odd (eqb-true (n % 2) 1 q))
    (λ q. let l : n % 2 < 2 = mod-lt n two_pos in even (omega (arith, eqb-false (n % 2) 1 q)))

half-small : {w : ℕ} (n : ℕ) → w < 2 ^ suc n → w / 2 < 2 ^ n
half-small {w} n l = let e : 2 ^ suc n ≡ 2 ^ n * 2 = pow-suc 2 n in omega (arith, div-add-mod' w 2)

half-shr : (w j : ℕ) → w / 2 ^ suc j ≡ w / 2 / 2 ^ j
half-shr w j = let e : 1 + j ≡ suc j = omega arith in ap (λ (k : ℕ). w / 2 ^ k) (sym e) ∙ sym (shr-shr w 1 j)

-- ---- the members of a word that was made from others

pub bit-and : (v w j : ℕ) → bit (bit_and v w) j ≡ (bit v j && bit w j)
unfolding bit
bit-and v w j =
    rw (and_shr v w j, and_mod (v / 2 ^ j) (w / 2 ^ j) 1)
    (by-digit (v / 2 ^ j) (λ p. rw p) (λ p. rw p (by-digit (w / 2 ^ j) (λ q. rw q) (λ q. rw q))))

pub bit-or : (v w j : ℕ) → bit (bit_or v w) j ≡ (bit v j || bit w j)
unfolding bit
bit-or v w j =
    rw (or_shr v w j, or_mod (v / 2 ^ j) (w / 2 ^ j) 1)
    (by-digit (v / 2 ^ j) (λ p. rw p) (λ p. rw p (by-digit (w / 2 ^ j) (λ q. rw q) (λ q. rw q))))

pub bit-one : (i j : ℕ) → bit (2 ^ i) j ≡ eqb i j
bit-one zero zero = bit-low 1
bit-one zero (suc j) = rw (bit-half 1 j, eqb-zero-suc j) (bit-zero j)
bit-one (suc i) zero = rw (bit-low (2 ^ suc i), eqb-suc-zero i, pow-suc 2 i, mul-mod_left (2 ^ i) 2)
bit-one (suc i) (suc j) = rw (bit-half (2 ^ suc i) j, eqb-suc-suc i j, pow-suc 2 i, mul-div_cancel (2 ^ i) two_pos) (bit-one i j)

-- the code's `1 << i`
pub one_shl : (i : ℕ) → i < 32 → (1 * 2 ^ i) % 2 ^ 32 ≡ 2 ^ i
one_shl i l = rw one-mul (mod-eq_of_lt (pow-lt l))

-- what w leaves of n + 1 ones: what its half leaves of n ones, and the other digit
not-digits : (n w : ℕ) → w < 2 ^ suc n → 2 ^ suc n - 1 - w ≡ (2 ^ n - 1 - w / 2) * 2 + (1 - w % 2)
not-digits n w l = omega (arith, pow-suc 2 n, div-add-mod' w 2, mod-lt w two_pos)

-- among n digits
bit-not-of : (n w j : ℕ) → w < 2 ^ n → j < n → bit (2 ^ n - 1 - w) j ≡ not (bit w j)
bit-not-of zero w j l k = absurd (not-suc-le-zero k)
bit-not-of (suc n) w zero l k =
    let b : 1 - w % 2 < 2 = omega arith in
    rw (bit-low (2 ^ suc n - 1 - w), bit-low w, not-digits n w l, digits_mod (2 ^ n - 1 - w / 2) b)
    (by-digit w (λ q. rw q) (λ q. rw q))
bit-not-of (suc n) w (suc j) l k =
    let b : 1 - w % 2 < 2 = omega arith in
    rw (bit-half (2 ^ suc n - 1 - w) j, bit-half w j, not-digits n w l, digits_div (2 ^ n - 1 - w / 2) b)
    (bit-not-of n (w / 2) j (half-small n l) (le_of_suc-le-suc k))

pub bit_not : (w j : ℕ) → w < 2 ^ 32 → j < 32 → bit ((2 ^ 32 - 1) - w) j ≡ not (bit w j)
bit_not = bit-not-of 32

-- ---- every number of a word

pub every_below-low : (n : ℕ) (p : ℕ → Bool) → every_below (suc n) p ≡ (p 0 && every_below n (λ j. p (suc j)))
unfolding every_below
every_below-low zero p = refl
every_below-low (suc n) p =
    by-test (p (suc n)) (λ q. rw q (every_below-low n p)) (λ q. rw q (by-test (p 0) (λ r. rw r) (λ r. rw r)))

-- a word is zero where its half and its lowest digit are
zero-digits : (w : ℕ) → eqb w 0 ≡ (not (eqb (w % 2) 1) && eqb (w / 2) 0)
zero-digits w =
    by-digit w
    (λ q. rw q (by-test (eqb (w / 2) 0)
    (λ r. rw r (eq-eqb w 0 (omega (arith, div-add-mod' w 2, eqb-true (w / 2) 0 r))))
    (λ r. rw r (ne_eqb w 0 (λ z. eqb-false (w / 2) 0 r (omega (arith, div-add-mod' w 2)))))))
    (λ q. rw q (ne_eqb w 0 (λ z. omega (arith, div-add-mod' w 2))))

none_below : (n w : ℕ) → w < 2 ^ n → every_below n (λ j. not (bit w j)) ≡ eqb w 0
unfolding every_below
none_below zero w l = sym (eq-eqb w 0 (lt-one l))
none_below (suc n) w l =
    let rest = every_below-ext n _ _ (λ j k. ap not (bit-half w j)) ∙ none_below n (w / 2) (half-small n l) in
    rw (every_below-low n (λ j. not (bit w j)), bit-low w, rest) (sym (zero-digits w))

all-half : (n w m : ℕ) → every_below n (λ j. bit w (suc j) ⇒ ltb (suc j) (suc m)) ≡ every_below n (λ j. bit (w / 2) j ⇒ ltb j m)
all-half n w m =
    every_below-ext n (λ j. bit w (suc j) ⇒ ltb (suc j) (suc m)) (λ j. bit (w / 2) j ⇒ ltb j m)
    (λ j k. rw (bit-half w j, leb-suc-suc (suc j) m))

pub all-below : (n w m : ℕ) → w < 2 ^ n → every_below n (λ j. bit w j ⇒ ltb j m) ≡ eqb (w / 2 ^ m) 0
unfolding every_below ◌⇒◌
all-below zero w m l = rw (lt-one l, zero-div)
all-below (suc n) w zero l =
    every_below-ext (suc n) (λ j. bit w j ⇒ ltb j 0) (λ j. not (bit w j))
    (λ j k. rw (leb-suc-zero j) (by-test (bit w j) (λ q. rw q) (λ q. rw q)))
    ∙ none_below (suc n) w l
    ∙ ap (λ (v : ℕ). eqb v 0) (sym (div-one w))
all-below (suc n) w (suc m) l =
    let halved = all-half n w m ∙ all-below n (w / 2) m (half-small n l) in
    rw (every_below-low n (λ j. bit w j ⇒ ltb j (suc m)), halved, lt-ltb 0 (suc m) (omega arith), half-shr w m)
    (by-test (bit w 0) (λ q. rw q) (λ q. rw q))

-- every number of a word passes p
unfoldable pub all_bits : ℕ → (ℕ → Bool) → Bool
all_bits w p = every_below set_bits (λ j. bit w j ⇒ p j)

-- the code's `w & !v == 0`
pub all_bits-bit : (v w : ℕ) → v < 2 ^ 32 → w < 2 ^ 32 → all_bits w (bit v) ≡ eqb (bit_and w ((2 ^ 32 - 1) - v)) 0
unfolding all_bits ◌⇒◌
all_bits-bit v w k l =
    let u = (2 ^ 32 - 1) - v in
    let outside : (j : ℕ) → j < 32 → (bit w j ⇒ bit v j) ≡ not (bit (bit_and w u) j) =
    λ j m. rw (bit-and w u j, bit_not v j k m)
    (by-test (bit w j) (λ t. rw t (sym (not-not (bit v j)))) (λ t. rw t)) in
    every_below-ext 32 _ _ outside ∙ none_below 32 (bit_and w u) (and_lt 32 w u l (omega arith))

-- ---- how many numbers a word has

pub ones-few : (n w : ℕ) → ones_in n w ≤ n
unfolding ones_in
ones-few zero w = zero-le
ones-few (suc n) w = omega (arith, ones-few n (w / 2), mod-lt w two_pos)

pub ones-zero : (n w : ℕ) → w < 2 ^ n → eqb (ones_in n w) 0 ≡ eqb w 0
unfolding ones_in
ones-zero zero w l = sym (eq-eqb w 0 (lt-one l))
ones-zero (suc n) w l = rw (zero-digits w, ← ones-zero n (w / 2) (half-small n l))
    (by-digit w (λ q. rw (q, zero-add)) (λ q. rw q (ne_eqb (1 + ones_in n (w / 2)) 0 (λ z. omega arith))))

pub ones-all : (n w : ℕ) → w < 2 ^ n → ones w ≡ ones_in n w
unfolding ones_in ones
ones-all zero w l = rw (lt-one l)
ones-all (suc n) w l = rw (ones_step w, ones-all n (w / 2) (half-small n l))
