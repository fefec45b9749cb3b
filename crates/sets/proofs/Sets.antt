-- Sets of numbers as words: each test of a set, of any number of words, as a test of each word, which is how the code makes it. Assumes nothing.
use Prim.Native.Nat.{ℕ, zero, suc, ◌+◌, ◌-◌, ◌*◌, ◌/◌, ◌%◌, ◌^◌, ◌≤◌, ◌<◌, zero-le}
use native.Mathlib.Nat.{zero-add, add-zero, add-suc, mul-zero, mul-suc, mul_comm}
use native.Mathlib.Omega.{arith}
use mathlib.Core.Path.{◌≡◌, refl, sym, ap, ap₂, ◌∙◌}
use mathlib.Core.Bool.{Bool, true, false, ◌&&◌, ◌||◌, and-false, and-true}
use mathlib.Core.List.{List, [], ◌∷◌, ◌++◌}
use lib.Bits.{bit_and, bit_or, or_zero_r}
use lib.Count.{ones_in, ones}
use lib.Dec.{eqb, ltb, eqb-suc-zero}
use lib.ListN.{length, get_or, set, replicate, take, drop, length-take, get_or-eq_default}
use lib.Seq.{get_or-take, get_or-drop, take-length, get_or-set_same, get_or-set_other}
use borrow.Author.Tests.{eqb-true, eqb-false, ne_eqb, lt-ltb, ltb-true, ltb-false}
use Rattle.model.specs.Lists.{if◌then◌otherwise◌, ◌⇒◌, part}
use Rattle.model.specs.Words.{same_words, bit, in_words, member, size, every_below, count_below, all_in}
use Rattle.model.proofs.Tests.{by-test, every_below-ext}
use Rattle.model.proofs.Parts.{length_part}
use Rattle.model.proofs.Sets.{bit-zero, in-word, set-size}
use Rattle.std.specs.List.{list_all, zip, sum_by}
use Rattle.std.proofs.lemmas.List.Sums.{sum_by-cons}
use Rattle.sets.proofs.Bits.{bit-or, every_below-low, all-below, all_bits, all_bits-bit, ones-few, ones-zero, ones-all}

-- ---- every number below n, from the lowest on

-- the numbers below m + n, and those below g * n as n groups
every_below-add : (m n : ℕ) (p : ℕ → Bool) → every_below (m + n) p ≡ (every_below n (λ j. p (m + j)) && every_below m p)
unfolding every_below
every_below-add m zero p = rw add-zero
every_below-add m (suc n) p = rw (add-suc, every_below-add m n p) (by-test (p (m + n)) (λ q. rw q) (λ q. rw q))

every_below-groups : (g n : ℕ) (p : ℕ → Bool) → every_below (g * n) p ≡ every_below n (λ k. every_below g (λ j. p (k * g + j)))
unfolding every_below
every_below-groups g zero p = rw mul-zero
every_below-groups g (suc n) p = rw (mul-suc, every_below-add (g * n) g p, every_below-groups g n p, mul_comm g n)

-- ---- all in a set

-- a set word by word
pub all_in-words : (s : List ℕ) (p : ℕ → Bool) → all_in s p ≡ every_below (length s) (λ k. all_bits (get_or s k 0) (λ j. p (k * 32 + j)))
unfolding all_in all_bits
all_in-words s p =
    every_below-groups 32 (length s) (λ j. member s j ⇒ p j)
    ∙ every_below-ext (length s) _ _ (λ k l. every_below-ext 32 (λ j. member s (k * 32 + j) ⇒ p (k * 32 + j)) (λ j. bit (get_or s k 0) j ⇒ p (k * 32 + j))
    (λ j m. rw (in-word (λ k. get_or s k 0) k j m)))

-- words of 32 bits
abbrev pub Small : List ℕ → Type 0
Small s = (k : ℕ) → get_or s k 0 < 2 ^ 32

-- inclusion: the code's `s[k] & !v[k] == 0` of every word
pub all_in-in_words : (s : List ℕ) (v : ℕ → ℕ) → Small s → ((k : ℕ) → v k < 2 ^ 32)
    → all_in s (in_words v) ≡ every_below (length s) (λ k. eqb (bit_and (get_or s k 0) ((2 ^ 32 - 1) - v k)) 0)
unfolding all_bits
all_in-in_words s v small words =
    all_in-words s (in_words v)
    ∙ every_below-ext (length s) _ _ (λ k l.
    every_below-ext 32 (λ j. bit (get_or s k 0) j ⇒ in_words v (k * 32 + j)) (λ j. bit (get_or s k 0) j ⇒ bit (v k) j) (λ j m. rw (in-word v k j m))
    ∙ all_bits-bit (v k) (get_or s k 0) (words k) (small k))

-- the same, of two sets word beside word
zip_below : (f : ℕ → ℕ → Bool) (s t : List ℕ) → length s ≤ length t
    → list_all (λ (p : ℕ × ℕ). f p.0 p.1) (zip s t) ≡ every_below (length s) (λ k. f (get_or s k 0) (get_or t k 0))
unfolding every_below
zip_below f [] t h = refl
zip_below f (a ∷ s) [] h = absurd (omega arith)
zip_below f (a ∷ s) (b ∷ t) h =
    ap (f a b &&◌) (zip_below f s t (omega arith)) ∙ sym (every_below-low (length s) (λ k. f (get_or (a ∷ s) k 0) (get_or (b ∷ t) k 0)))

pub within-all : (s t : List ℕ) → Small s → Small t → length s ≤ length t
    → list_all (λ (p : ℕ × ℕ). eqb (bit_and p.0 ((2 ^ 32 - 1) - p.1)) 0) (zip s t) ≡ all_in s (member t)
within-all s t small others h =
    zip_below (λ v w. eqb (bit_and v ((2 ^ 32 - 1) - w)) 0) s t h ∙ sym (all_in-in_words s (λ k. get_or t k 0) small others)

-- ---- a set of one word

all_in-one : (w : ℕ) (p : ℕ → Bool) → all_in (w ∷ []) p ≡ all_bits w p
unfolding all_bits every_below
all_in-one w p = all_in-words (w ∷ []) p ∙ and-true (all_bits w p)

-- the code's `w >> m == 0`
pub all_in-below : (w m : ℕ) → w < 2 ^ 32 → all_in (w ∷ []) (λ j. ltb j m) ≡ eqb (w / 2 ^ m) 0
unfolding all_bits
all_in-below w m l = all_in-one w (λ j. ltb j m) ∙ all-below 32 w m l

pub all_in-wide : (w m : ℕ) → 32 ≤ m → all_in (w ∷ []) (λ j. ltb j m) ≡ true
unfolding all_bits every_below ◌⇒◌
all_in-wide w m l =
    all_in-one w (λ j. ltb j m)
    ∙ every_below-ext 32 (λ j. bit w j ⇒ ltb j m) (λ j. true)
    (λ j k. rw (lt-ltb j m (omega arith)) (by-test (bit w j) (λ q. rw q) (λ q. rw q)))

pub size_few : (s : List ℕ) → size s ≤ 32 * length s
unfolding size
size_few [] = zero-le
size_few (w ∷ s) = omega (arith, ones-few 32 w, size_few s)

pub size-append : (s t : List ℕ) → size (s ++ t) ≡ size s + size t
unfolding size
size-append [] t = sym (zero-add (size t))
size-append (w ∷ s) t = omega (arith, size-append s t)

sum-zero : (m n : ℕ) → eqb (m + n) 0 ≡ (eqb m 0 && eqb n 0)
sum-zero zero n = rw zero-add
sum-zero (suc m) n = rw (eqb-suc-zero m) (ne_eqb (suc m + n) 0 (λ z. omega arith))

-- a set is empty where every word is zero
pub size-zero : (s : List ℕ) → Small s → same_words s (replicate (length s) 0) ≡ eqb (size s) 0
unfolding size same_words
size-zero [] small = refl
size-zero (w ∷ s) small = rw (sum-zero (ones_in 32 w) (size s), ones-zero 32 w (small 0), size-zero s (λ k. small (suc k)))

-- the code's `u32::count_ones(w)`, of a set of one word
pub size-ones : (w : ℕ) → w < 2 ^ 32 → ones w ≡ size (w ∷ [])
unfolding size
size-ones w l = ones-all 32 w l ∙ sym (add-zero (ones_in 32 w))

-- the code's `u32::count_ones(w)` of every word
pub size-sum : (s : List ℕ) → Small s → sum_by ones s ≡ size s
unfolding size
size-sum [] small = refl
size-sum (w ∷ s) small = sum_by-cons ones w s ∙ ap₂ ◌+◌ (ones-all 32 w (small 0)) (size-sum s (λ k. small (suc k)))

pub set-size-few : (l : List ℕ) (p n : ℕ) → size (part p n l) ≤ 32 * n
unfolding part
set-size-few l p n = omega (arith, size_few (part p n l), length-take n (drop p l))

-- ---- a set that stands among other words: n words from place p on

pub set_word : (l : List ℕ) (p n k : ℕ) → k < n → get_or (part p n l) k 0 ≡ get_or l (p + k) 0
unfolding part
set_word l p n k m = get_or-take n (drop p l) k 0 m ∙ get_or-drop p l k 0

pub set_past : (l : List ℕ) (p n k : ℕ) → n ≤ k → get_or (part p n l) k 0 ≡ 0
unfolding part
set_past l p n k m = get_or-eq_default (take n (drop p l)) 0 (simp length-take (omega arith))

-- its words are words of 32 bits
abbrev pub Words : List ℕ → ℕ → ℕ → Type 0
Words l p n = (k : ℕ) → k < n → get_or l (p + k) 0 < 2 ^ 32

words_small : (l : List ℕ) (p n : ℕ) → Words l p n → Small (part p n l)
words_small l p n small k =
    by-test (ltb k n)
    (λ q. let less = ltb-true k n q in rw (set_word l p n k less) (small k less))
    (λ q. rw (set_past l p n k (ltb-false k n q)) (omega arith))

-- it is within one that stands at another place: `l[p + k] & !m[q + k] == 0` of every word
module _ (l : List ℕ) (p n : ℕ) (small : Words l p n) (inside : p + n ≤ length l) where
  pub within-at : (m : List ℕ) (q : ℕ) → Words m q n
      → all_in (part p n l) (member (part q n m)) ≡ every_below n (λ k. eqb (bit_and (get_or l (p + k) 0) ((2 ^ 32 - 1) - get_or m (q + k) 0)) 0)
  within-at m q words =
      all_in-in_words (part p n l) (λ k. get_or (part q n m) k 0) (words_small l p n small) (words_small m q n words)
      ∙ rw (length_part p n l inside)
      (every_below-ext n _ _ (λ k less. ap₂ (λ (v w : ℕ). eqb (bit_and v ((2 ^ 32 - 1) - w)) 0) (set_word l p n k less) (set_word m q n k less)))

-- ---- a set within the empty one

none_below : (n : ℕ) (m : ℕ → Bool) → every_below n (λ j. m j ⇒ false) ≡ eqb (count_below n m) 0
unfolding every_below count_below ◌⇒◌ if◌then◌otherwise◌
none_below zero m = refl
none_below (suc n) m =
    by-test (m n)
    (λ q. rw q (sym (ne_eqb (1 + count_below n m) 0 (λ z. omega arith))))
    (λ q. rw (q, none_below n m, zero-add))

pub all_in-none : (s : List ℕ) → all_in s (member []) ≡ eqb (size s) 0
unfolding all_in in_words
all_in-none s =
    every_below-ext (32 * length s) (λ j. member s j ⇒ member [] j) (λ j. member s j ⇒ false) (λ j l. rw (bit-zero (j % 32)))
    ∙ none_below (32 * length s) (member s)
    ∙ ap (λ (n : ℕ). eqb n 0) (sym (set-size s))

-- ---- two tests of all in a set

both_below : (n : ℕ) (m p q : ℕ → Bool)
    → every_below n (λ j. m j ⇒ (p j && q j)) ≡ (every_below n (λ j. m j ⇒ p j) && every_below n (λ j. m j ⇒ q j))
unfolding every_below ◌⇒◌
both_below zero m p q = refl
both_below (suc n) m p q =
    rw (both_below n m p q)
    (by-test (m n)
    (λ a. rw a (by-test (p n) (λ b. rw b (by-test (q n) (λ c. rw c) (λ c. rw (c, and-false)))) (λ b. rw b)))
    (λ a. rw a))

pub all_in-and : (s : List ℕ) (p q : ℕ → Bool) → all_in s (λ j. p j && q j) ≡ (all_in s p && all_in s q)
unfolding all_in
all_in-and s p q = both_below (32 * length s) (member s) p q

-- ---- the union of two sets

-- number j is in one of them: the code's `s[k] | t[k]` of every word
pub member-or : (s t : ℕ → ℕ) (j : ℕ) → in_words (λ k. bit_or (s k) (t k)) j ≡ (in_words s j || in_words t j)
unfolding in_words
member-or s t j = bit-or (s (j / 32)) (t (j / 32)) (j % 32)

-- ---- a set as an array of words

-- the code's `words[a] = words[a] | w`
pub set-put : (words : List ℕ) (a w k : ℕ) → a < length words
    → get_or (set words a (bit_or (get_or words a 0) w)) k 0 ≡ (if eqb a k then bit_or (get_or words k 0) w otherwise get_or words k 0)
unfolding if◌then◌otherwise◌
set-put words a w k m =
    by-test (eqb a k)
    (λ q. rw (q, ← eqb-true a k q) (get_or-set_same words a _ 0 m))
    (λ q. rw q (get_or-set_other words a k _ 0 (λ e. eqb-false a k q (sym e))))

-- a loop that does so with each word of a set: its beginning, one step and its end
module _ (old l : List ℕ) where
  abbrev pub Joined : List ℕ → ℕ → Type 0
  Joined words k = (j : ℕ) → j < 8 → get_or words j 0 ≡ bit_or (get_or old j 0) (get_or (take k l) j 0)

  past : (k j : ℕ) → k ≤ j → get_or (take k l) j 0 ≡ 0
  past k j h = get_or-eq_default (take k l) 0 (omega (arith, length-take k l))

  pub joined-none : Joined old 0
  joined-none j m = rw (past 0 j zero-le, or_zero_r)

  pub joined-next : (words : List ℕ) (k : ℕ) → k < length words → k < 8 → k < length l → Joined words k
      → Joined (set words k (bit_or (get_or words k 0) (get_or l k 0))) (k + 1)
  unfolding if◌then◌otherwise◌
  joined-next words k small few inside all j m =
      set-put words k (get_or l k 0) j small
      ∙ by-test (eqb k j)
      (λ q. rw (q, ← eqb-true k j q, all k few, past k k (omega arith), or_zero_r, get_or-take (k + 1) l k 0 (omega arith)))
      (λ q. rw (q, all j m) (ap (bit_or (get_or old j 0)) (by-test (ltb j k)
      (λ r. let less = ltb-true j k r in get_or-take k l j 0 less ∙ sym (get_or-take (k + 1) l j 0 (omega arith)))
      (λ r. let more = ltb-false j k r in let other = eqb-false k j q in past k j more ∙ sym (past (k + 1) j (omega arith))))))

  pub joined-all : (words : List ℕ) → Joined words (length l) → (j : ℕ) → j < 8 → get_or words j 0 ≡ bit_or (get_or old j 0) (get_or l j 0)
  joined-all words all = rw take-length at all
