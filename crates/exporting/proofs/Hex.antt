-- Laws of words in hexadecimal: how many digits they have, which, and that words of 32 bits are read back.
-- Paper: request (xi). Assumes nothing.
use Prim.Native.Nat.{ℕ, zero, suc, ◌+◌, ◌*◌, ◌/◌, ◌%◌, ◌^◌, ◌<◌}
use native.Mathlib.Nat.{mul_comm, mul_assoc, add-mul, div-add-mod', div-div-eq-div-mul}
use native.Mathlib.Omega.{arith}
use mathlib.Core.Path.{◌≡◌, refl, sym, ap, ◌∙◌}
use mathlib.Core.Bool.{Bool}
use mathlib.Core.List.{List, [], ◌∷◌, ◌++◌, append_assoc}
use lib.ListN.{length, get_or, length-append}
use lib.Dec.{T, eqb, eqb→eq}
use Rattle.model.specs.Lists.{if◌then◌otherwise◌, any, has}
use Rattle.model.specs.Words.{every_below}
use Rattle.model.proofs.Tests.{and-iff}
use Rattle.model.proofs.Sets.{every-below}
use Rattle.exporting.specs.Json.{bytes_of}
use Rattle.exporting.specs.Export.{hex_text, hex_digit, word_digits, hex_digits, hex_word, hex_words}
use Rattle.exporting.specs.Reading.{AreWords, hex_value, words_in}
use Rattle.exporting.proofs.Bytes.{all, all_join, all-at}

-- ---- how many digits there are

length-hex_digits : (n w : ℕ) → length (hex_digits n w) ≡ n
unfolding hex_digits
length-hex_digits zero w = refl
length-hex_digits (suc n) w = ap suc (length-hex_digits n w)

pub length-hex_word : (w : ℕ) → length (hex_word w) ≡ word_digits
unfolding hex_word
length-hex_word = length-hex_digits word_digits

pub length-hex_words : (ws : List ℕ) → length (hex_words ws) ≡ word_digits * length ws
unfolding hex_words
length-hex_words [] = refl
length-hex_words (w ∷ ws) = length-append (hex_word w) (hex_words ws) ∙ omega (arith, length-hex_word w, length-hex_words ws)

-- ---- words after words

pub hex_words-append : (a b : List ℕ) → hex_words (a ++ b) ≡ hex_words a ++ hex_words b
unfolding hex_words
hex_words-append [] b = refl
hex_words-append (w ∷ a) b = ap (λ (ds : List ℕ). hex_word w ++ ds) (hex_words-append a b) ∙ sym (append_assoc (hex_word w) (hex_words a) (hex_words b))

-- ---- which digits there are: every byte passes a test that the sixteen pass

module _ (p : ℕ → Bool) (sixteen : T (every_below 16 (λ d. p (hex_digit d)))) where
  all-hex_digits : (n w : ℕ) → T (all p (hex_digits n w))
  unfolding all hex_digits
  all-hex_digits zero w = tt
  all-hex_digits (suc n) w =
      let here = every-below 16 (λ d. p (hex_digit d)) sixteen (w / 16 ^ n % 16) (omega arith) in
      (and-iff (p (hex_digit (w / 16 ^ n % 16))) (all p (hex_digits n w))).1 (here, all-hex_digits n w)

  pub all-hex_words : (ws : List ℕ) → T (all p (hex_words ws))
  unfolding all hex_words hex_word
  all-hex_words [] = tt
  all-hex_words (w ∷ ws) = all_join p (hex_word w) (hex_words ws) (all-hex_digits word_digits w) (all-hex_words ws)

abbrev is_hex : ℕ → Bool
is_hex b = has b hex_text

pub hex-bytes : (ws : List ℕ) (k : ℕ) → k < length (hex_words ws) → T (has (get_or (hex_words ws) k 0) hex_text)
unfolding hex_text bytes_of any every_below
hex-bytes ws k = all-at is_hex (hex_words ws) k (all-hex_words is_hex tt ws)

-- ---- words read back

digit_value : (d : ℕ) → d < 16 → hex_value (hex_digit d) ≡ d
unfolding hex_text bytes_of hex_value if◌then◌otherwise◌ every_below
digit_value d l = eqb→eq _ _ (every-below 16 (λ k. eqb (hex_value (hex_digit k)) k) tt d l)

digit-read : (w n : ℕ) → hex_value (hex_digit (w / n % 16)) ≡ w / n % 16
digit-read w n = digit_value (w / n % 16) (omega arith)

-- a digit behind those before it
next-digit : (w n : ℕ) → w / (n * 16) * (n * 16) + w / n % 16 * n ≡ w / n * n
next-digit w n =
    let q = w / n in
    rw (← div-div-eq-div-mul w n 16, mul_comm n 16, ← mul_assoc (q / 16) 16 n, ← add-mul (q / 16 * 16) (q % 16) n, div-add-mod' q 16)

first-digit : (w : ℕ) → w < 2 ^ 32 → w / 16 ^ 7 % 16 * 16 ^ 7 ≡ w / 16 ^ 7 * 16 ^ 7
first-digit w l = omega arith

eight-digits : (w : ℕ) → w < 2 ^ 32 →
    w / 16 ^ 7 % 16 * 16 ^ 7 + w / 16 ^ 6 % 16 * 16 ^ 6 + w / 16 ^ 5 % 16 * 16 ^ 5 + w / 16 ^ 4 % 16 * 16 ^ 4
    + w / 16 ^ 3 % 16 * 16 ^ 3 + w / 16 ^ 2 % 16 * 16 ^ 2 + w / 16 ^ 1 % 16 * 16 + w / 16 ^ 0 % 16 ≡ w
eight-digits w l =
    let next = next-digit w in
    rw (first-digit w l, next (16 ^ 6), next (16 ^ 5), next (16 ^ 4), next (16 ^ 3), next (16 ^ 2), next (16 ^ 1)) (omega arith)

pub words-read : (ws : List ℕ) → AreWords ws → words_in (hex_words ws) ≡ ws
unfolding words_in hex_words hex_word hex_digits
words-read [] f = refl
words-read (w ∷ ws) f = rw (words-read ws (λ k. f (suc k))) (simp digit-read (ap (◌∷ ws) (eight-digits w (f 0))))
