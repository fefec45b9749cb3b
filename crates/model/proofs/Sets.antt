-- Sets of numbers, of any number of words: which numbers they have, how many, and what all of them pass. Paper: "Item types", request (v).
-- Assumes nothing.
use Prim.Native.Nat.{ℕ, zero, suc, ◌+◌, ◌-◌, ◌*◌, ◌/◌, ◌%◌, ◌^◌, ◌≤◌, ◌<◌, suc-le-suc}
use native.Mathlib.Nat.{not-suc-le-zero, zero-lt-suc, div-one, div-div-eq-div-mul, pow-succ', zero-div, add-zero, add-suc, mul-mod_left, mul-le-mul_right, div-add-mod'}
use native.Mathlib.Decide.{dec_le}
use native.Mathlib.Omega.{arith}
use mathlib.Core.Path.{◌≡◌, refl, sym, ap, ◌∙◌}
use mathlib.Core.Logic.{◌≢◌, ◌↔◌, by_cases}
use mathlib.Core.Bool.{Bool, false}
use mathlib.Core.List.{List, [], ◌∷◌}
use lib.Arith.{digits_div, digits_mod}
use lib.ListN.{length, get_or, get_or-eq_default}
use lib.Count.{ones_in}
use lib.Dec.{T, eqb}
use borrow.Author.Tests.{eqb-true, eqb-false}
use Rattle.model.specs.Lists.{if◌then◌otherwise◌}
use Rattle.model.specs.Words.{bit, in_words, member, size, every_below, count_below, all_in}
use Rattle.model.specs.Types.{set_and_each, fits}
use Rattle.model.proofs.Tests.{by-test, passes, and-iff, implies-iff, facts}

-- ---- every number below n

pub every-below : (n : ℕ) (p : ℕ → Bool) → T (every_below n p) → (j : ℕ) → j < n → T (p j)
unfolding every_below
every-below zero p t j l = absurd (not-suc-le-zero l)
every-below (suc n) p t j l =
    let (here, below) = (and-iff (p n) (every_below n p)).0 t in
    by-test (eqb j n) (λ q. rw (eqb-true j n q) here) (λ q. every-below n p below j (omega (arith, eqb-false j n q)))

all-below : (n : ℕ) (p : ℕ → Bool) → ((j : ℕ) → j < n → T (p j)) → T (every_below n p)
unfolding every_below
all-below zero p all = tt
all-below (suc n) p all = (and-iff (p n) (every_below n p)).1 (all n (omega arith), all-below n p (λ j l. all j (omega arith)))

-- ---- how many numbers below n

module _ (p : ℕ → Bool) where
  count_below-add : (m n : ℕ) → count_below (m + n) p ≡ count_below m p + count_below n (λ j. p (m + j))
  unfolding count_below
  count_below-add m zero = rw (add-zero, add-zero)
  count_below-add m (suc n) = rw (add-suc, count_below-add m n) (omega arith)

  count_below-low : (n : ℕ) → count_below (suc n) p ≡ (if p 0 then 1 otherwise 0) + count_below n (λ j. p (suc j))
  unfolding count_below
  count_below-low zero = refl
  count_below-low (suc n) = rw (count_below-low n) (omega arith)

count_below-ext : (n : ℕ) (p q : ℕ → Bool) → ((j : ℕ) → p j ≡ q j) → count_below n p ≡ count_below n q
unfolding count_below
count_below-ext zero p q same = refl
count_below-ext (suc n) p q same = rw (same n, count_below-ext n p q same)

-- ---- the numbers of a word

pub bit-zero : (j : ℕ) → bit 0 j ≡ false
unfolding bit
bit-zero j = rw zero-div

pub bit-low : (w : ℕ) → bit w 0 ≡ eqb (w % 2) 1
unfolding bit
bit-low w = rw div-one

pub bit-half : (w j : ℕ) → bit w (suc j) ≡ bit (w / 2) j
unfolding bit
bit-half w j = rw (pow-succ', ← div-div-eq-div-mul)

ones-count : (d w : ℕ) → ones_in d w ≡ count_below d (bit w)
unfolding ones_in count_below if◌then◌otherwise◌
ones-count zero w = refl
ones-count (suc d) w =
    rw (count_below-low (bit w) d, count_below-ext d (λ j. bit w (suc j)) (bit (w / 2)) (bit-half w), ← ones-count d (w / 2), bit-low w)
    (by-test (eqb (w % 2) 1) (λ q. rw q (omega (arith, eqb-true (w % 2) 1 q))) (λ q. rw q (omega (arith, eqb-false (w % 2) 1 q))))

rest_some : (w n : ℕ) → w % 2 ≢ 1 → 1 ≤ w % 2 + n → 1 ≤ n
rest_some w n o l = omega arith

-- a word that is not zero has a number
ones-member : (d w : ℕ) → 1 ≤ ones_in d w → (j : ℕ) × (j < d) × T (bit w j)
unfolding ones_in bit
ones-member zero w l = absurd (not-suc-le-zero l)
ones-member (suc d) w l =
    by-test (eqb (w % 2) 1)
    (λ q. (0, zero-lt-suc d, rw div-one (passes q)))
    (λ q. let (j, small, in-half) = ones-member d (w / 2) (rest_some w (ones_in d (w / 2)) (eqb-false (w % 2) 1 q) l) in
    (suc j, suc-le-suc small, rw (pow-succ', ← div-div-eq-div-mul) in-half))

-- ---- the numbers of a set

-- number j of word k, of words that a function gives and of a list of them
pub in-word : (s : ℕ → ℕ) (k j : ℕ) → j < 32 → in_words s (k * 32 + j) ≡ bit (s k) j
unfolding in_words
in-word s k j l = rw (digits_div k l, digits_mod k l)

pub set-bit : (s : List ℕ) (k j : ℕ) → j < 32 → member s (k * 32 + j) ≡ bit (get_or s k 0) j
set-bit s = in-word (λ k. get_or s k 0)

pub set-member : (s : List ℕ) (k j : ℕ) → j < 32 → member s (k * 32 + j) ≡ eqb (get_or s k 0 / 2 ^ j % 2) 1
unfolding bit
set-member s k j l = set-bit s k j l

-- none past its words
member-past : (s : List ℕ) (j : ℕ) → 32 * length s ≤ j → T (member s j) → ⊥
unfolding in_words bit
member-past s j l t =
    let past : length s ≤ j / 32 = omega arith in
    let none : get_or s (j / 32) 0 ≡ 0 = get_or-eq_default s 0 past in
    simp zero-div at (rw none at t)

member-next : (w : ℕ) (s : List ℕ) (j : ℕ) → member (w ∷ s) (32 + j) ≡ member s j
unfolding in_words
member-next w s j =
    let high : (32 + j) / 32 ≡ suc (j / 32) = omega arith in
    let low : (32 + j) % 32 ≡ j % 32 = omega arith in
    rw (high, low)

member-first : (w : ℕ) (s : List ℕ) (j : ℕ) → j < 32 → member (w ∷ s) j ≡ bit w j
member-first w s j l = let e : 0 * 32 + j ≡ j = omega arith in ap (member (w ∷ s)) (sym e) ∙ set-bit (w ∷ s) 0 j l

-- ---- its size

count_below-up_to : (n : ℕ) (p q : ℕ → Bool) → ((j : ℕ) → j < n → p j ≡ q j) → count_below n p ≡ count_below n q
unfolding count_below
count_below-up_to zero p q same = refl
count_below-up_to (suc n) p q same = rw (same n (omega arith), count_below-up_to n p q (λ j l. same j (omega arith)))

pub set-size : (s : List ℕ) → size s ≡ count_below (32 * length s) (member s)
unfolding size count_below
set-size [] = refl
set-size (w ∷ s) =
    let more : 32 * length (w ∷ s) ≡ 32 + 32 * length s = omega arith in
    let first = count_below-up_to 32 (member (w ∷ s)) (bit w) (member-first w s) in
    let rest = count_below-up_to (32 * length s) (λ j. member (w ∷ s) (32 + j)) (member s) (λ j l. member-next w s j) in
    rw (more, count_below-add (member (w ∷ s)) 32 (32 * length s), first, rest, ← set-size s, ones-count 32 w)

none_here : (m n : ℕ) → m ≡ 0 → 1 ≤ m + n → 1 ≤ n
none_here m n e l = omega arith

some-least : (n : ℕ) → n ≢ 0 → 1 ≤ n
some-least n o = omega arith

-- a set that is not empty has a word that is not zero
size-some : (s : List ℕ) → 1 ≤ size s → (k : ℕ) × (k < length s) × (1 ≤ ones_in 32 (get_or s k 0))
unfolding size
size-some [] l = absurd (not-suc-le-zero l)
size-some (w ∷ s) l =
    by-test (eqb (ones_in 32 w) 0)
    (λ q. let (k, m, some) = size-some s (none_here (ones_in 32 w) (size s) (eqb-true (ones_in 32 w) 0 q) l) in (suc k, suc-le-suc m, some))
    (λ q. (0, zero-lt-suc (length s), some-least (ones_in 32 w) (eqb-false (ones_in 32 w) 0 q)))

-- ---- what all its numbers pass

pub set_all : (s : List ℕ) (p : ℕ → Bool) → T (all_in s p) ↔ ((j : ℕ) → T (member s j) → T (p j))
unfolding all_in
set_all s p = (
  λ t j m. by_cases (dec_le (32 * length s) j) (λ l. absurd (member-past s j l m))
      (λ l. (implies-iff (member s j) (p j)).0 (every-below (32 * length s) _ t j (omega arith)) m),
  λ all. all-below (32 * length s) _ (λ j l. (implies-iff (member s j) (p j)).1 (all j)),
)

-- of a set that is not empty some number passes it
pub some_in : (s : List ℕ) (p : ℕ → Bool) → 1 ≤ size s → T (all_in s p) → (j : ℕ) × T (p j)
some_in s p l t =
    let (k, there, some) = size-some s l in
    let (j, small, inside) = ones-member 32 (get_or s k 0) some in
    (k * 32 + j, (set_all s p).0 t (k * 32 + j) (rw (set-bit s k j small) inside))

-- ---- the counts of a set, and of parts for each of its numbers

module _ (w size n : ℕ) (one : 1 ≤ size) where
  parts : T (fits (set_and_each w size) n) → (k : ℕ) × (1 ≤ k) × (k ≤ 32 * w) × (n ≡ w + k * size)
  unfolding fits
  parts t =
      let ((least, most), whole) = simp facts at t in
      let k = (n - w) / size in
      let split = div-add-mod' (n - w) size in
      let some : 1 ≤ k = by_cases (dec_le 1 k) (λ l. l) (λ l. let none : k ≡ 0 = omega arith in absurd (omega (arith, ap (◌* size) none))) in
      let few : k ≤ 32 * w = by_cases (dec_le k (32 * w)) (λ l. l) (λ l. let past : 32 * w + 1 ≤ k = omega arith in let more = mul-le-mul_right size past in absurd (omega arith)) in
      (k, some, few, omega arith)

  made : (k : ℕ) → 1 ≤ k → k ≤ 32 * w → n ≡ w + k * size → T (fits (set_and_each w size) n)
  unfolding fits
  made k some few is =
      let least : 1 * size ≤ k * size = mul-le-mul_right size some in
      let most : k * size ≤ 32 * w * size = mul-le-mul_right size few in
      let rest : n - w ≡ k * size = omega arith in
      simp facts (((omega arith), (omega arith)), rw rest (mul-mod_left k size))

  pub set-counts : T (fits (set_and_each w size) n) ↔ ((k : ℕ) × (1 ≤ k) × (k ≤ 32 * w) × (n ≡ w + k * size))
  set-counts = (parts, λ (k, some, few, is). made k some few is)
