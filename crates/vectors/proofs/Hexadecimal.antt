-- A number read digit by digit, and words read one after the other.
use mathlib.Core.Path.{◌≡◌, refl, sym, ap, ◌∙◌}
use Prim.Native.Nat.{ℕ, zero, suc, ◌+◌, ◌-◌, ◌*◌, ◌^◌, ◌≤◌, ◌<◌}
use mathlib.Core.Bool.{Bool, true, false, and-eq-true_iff, and-false}
use mathlib.Core.List.{List, [], ◌∷◌, ◌++◌}
use native.Mathlib.Nat.{suc-mul, add_comm, pow-suc, pow-le-pow_right}
use native.Mathlib.Numerals.{add-one}
use native.Mathlib.Omega.{arith}
use borrow.Author.Tests.{ltb-true}
use lib.Dec.{ltb}
use lib.ListN.{length, get_or, take, drop, set, replicate, length-append, length-take}
use Rattle.std.specs.Simd.{first_chunks}
use lib.Seq.{drop-drop, drop-cons, drop-length, append_snoc, set_at}
use Rattle.std.proofs.Common.{Some, None, is_some, cond}
use Rattle.vectors.specs.Hexadecimal.{digit, digit_value, all_digits, number, number_from, words_of}

by_test : {X : Type 0} (b : Bool) → (b ≡ true → X) → (b ≡ false → X) → X
by_test true f g = f refl
by_test false f g = g refl

-- ---- digits alone

some-digit : (c : ℕ) → is_some (digit_value c) ≡ ltb (digit c) 16
unfolding digit_value
some-digit c = elim (ltb (digit c) 16) as (λ (b : Bool). is_some (cond b (Some (digit c)) None) ≡ b) [ true ↦ refl | false ↦ refl ]

-- a text of which each byte is a digit, and one that has another
every-digit : (text : List ℕ) → ((k : ℕ) → k < length text → is_some (digit_value (get_or text k 0)) ≡ true) → all_digits text ≡ true
unfolding all_digits
every-digit [] each = refl
every-digit (c ∷ cs) each =
    (and-eq-true_iff (ltb (digit c) 16) (all_digits cs)).1
    (sym (some-digit c) ∙ each 0 (omega arith), every-digit cs (λ k l. each (suc k) (omega arith)))

no-digit : (text : List ℕ) (k : ℕ) → k < length text → is_some (digit_value (get_or text k 0)) ≡ false → all_digits text ≡ false
unfolding all_digits
no-digit [] k l e = absurd (omega arith)
no-digit (c ∷ cs) zero l e = rw (sym (some-digit c) ∙ e) refl
no-digit (c ∷ cs) (suc k) l e = rw (no-digit cs k (omega arith) e) (and-false (ltb (digit c) 16))

pub digits-told : (text : List ℕ) (r : Bool)
    → (r ≡ true → (k : ℕ) → k < length text → is_some (digit_value (get_or text k 0)) ≡ true)
    → (r ≡ false → (k : ℕ) × (k < length text) × (is_some (digit_value (get_or text k 0)) ≡ false))
    → r ≡ all_digits text
digits-told text true each other = sym (every-digit text (each refl))
digits-told text false each other = let (k, l, e) = other refl in sym (no-digit text k l e)

value_is : (c : ℕ) {d : ℕ} → digit_value c ≡ Some d → (d ≡ digit c) × (d < 16)
unfolding digit_value
value_is c {d} e =
    by_test (ltb (digit c) 16)
    (λ t. let s : Some (digit c) ≡ Some d = rw t at e in let same : digit c ≡ d = cc s in (sym same, omega (arith, same, ltb-true (digit c) 16 t)))
    (λ t. let n : None ≡ Some d = rw t at e in absurd (cc n))

-- where all from i on are digits, the one at i is, and those behind it are
module _ (l : List ℕ) (i : ℕ) (p : i < length l) where
  front : all_digits (drop i l) ≡ true → (ltb (digit (get_or l i 0)) 16 ≡ true) × (all_digits (drop (suc i) l) ≡ true)
  unfolding all_digits
  front w = (and-eq-true_iff (ltb (digit (get_or l i 0)) 16) (all_digits (drop (suc i) l))).0 (ap all_digits (sym (drop-cons l i 0 p)) ∙ w)

  pub some-here : all_digits (drop i l) ≡ true → is_some (digit_value (get_or l i 0)) ≡ true
  some-here w = some-digit (get_or l i 0) ∙ (front w).0

  pub digits-behind : all_digits (drop i l) ≡ true → all_digits (drop (i + 1) l) ≡ true
  digits-behind w = rw add-one (front w).1

  module _ {d : ℕ} (e : digit_value (get_or l i 0) ≡ Some d) where
    pub digit-few : d < 16
    digit-few = (value_is (get_or l i 0) e).1

    -- a digit more of a number
    pub number-next : (n : ℕ) {r : ℕ} → r ≡ number_from n (drop i l) → r ≡ number_from (n * 16 + d) (drop (i + 1) l)
    unfolding number_from
    number-next n w = w ∙ rw (add-one, drop-cons l i 0, (value_is (get_or l i 0) e).0)

pub number-all : (l : List ℕ) (n i : ℕ) {r : ℕ} → i ≡ length l → r ≡ number_from n (drop i l) → n ≡ r
unfolding number_from
number-all l n i p w = sym (w ∙ rw (p, drop-length))

digits-drop : (n : ℕ) (l : List ℕ) → all_digits l ≡ true → all_digits (drop n l) ≡ true
unfolding all_digits
digits-drop zero l w = w
digits-drop (suc n) [] w = w
digits-drop (suc n) (c ∷ cs) w = digits-drop n cs ((and-eq-true_iff (ltb (digit c) 16) (all_digits cs)).0 w).1

digits-take : (n : ℕ) (l : List ℕ) → all_digits l ≡ true → all_digits (take n l) ≡ true
unfolding all_digits
digits-take zero l w = refl
digits-take (suc n) [] w = refl
digits-take (suc n) (c ∷ cs) w =
    let b = (and-eq-true_iff (ltb (digit c) 16) (all_digits cs)).0 w in
    (and-eq-true_iff (ltb (digit c) 16) (all_digits (take n cs))).1 (b.0, digits-take n cs b.1)

-- ---- a number

-- few digits make a small number
pub few-digits : {n i : ℕ} (k : ℕ) → i ≤ k → n < 16 ^ i → n < 16 ^ k
few-digits {n} {i} k p q = omega (arith, pow-le-pow_right {n = 16} (omega arith) p)

pub more-digits : (n d i : ℕ) → n < 16 ^ i → d < 16 → n * 16 + d < 16 ^ (i + 1)
more-digits n d i p q = rw (add-one, pow-suc) (omega arith)

-- ---- words

-- the digits of word i, of the first n
pub eight-is : (text : List ℕ) (n i : ℕ) → i < n → get_or (first_chunks 8 n text) i [] ≡ take 8 (drop (i * 8) text)
eight-is text zero i p = absurd (omega arith)
eight-is text (suc n) zero p = refl
eight-is text (suc n) (suc i) p = eight-is (drop 8 text) n i (omega arith) ∙ rw (drop-drop, suc-mul, add_comm 8 (i * 8)) refl

pub length-eight : (text : List ℕ) (n i : ℕ) → i < n → length (get_or (first_chunks 8 n text) i []) ≤ 8
length-eight text n i p = rw (eight-is text n i p, length-take) (omega arith)

pub digits-eight : (text : List ℕ) (n i : ℕ) → i < n → all_digits text ≡ true → all_digits (get_or (first_chunks 8 n text) i []) ≡ true
digits-eight text n i p w = rw (eight-is text n i p) (digits-take 8 (drop (i * 8) text) (digits-drop (i * 8) text w))

length-words : (text : List ℕ) (n : ℕ) → length (words_of text n) ≡ n
unfolding words_of
length-words text zero = refl
length-words text (suc n) = length-append (words_of text n) _ ∙ ap (◌+ 1) (length-words text n) ∙ add-one n

-- a word more, the one that the next eight digits make, in room for `room`
pub words-next : (text l : List ℕ) (room n i : ℕ) {w : ℕ} → i < n → n ≤ room → w ≡ number (get_or (first_chunks 8 n text) i [])
    → l ≡ words_of text i ++ replicate (room - i) 0 → set l i w ≡ words_of text (i + 1) ++ replicate (room - (i + 1)) 0
unfolding words_of
words-next text l room n i {w} p q m h =
    let k : room - i ≡ suc (room - suc i) = omega arith in
    rw (h, k, set_at (words_of text i) 0 (replicate (room - suc i) 0) w i (length-words text i), add-one, append_snoc, m, eight-is text n i p) refl
