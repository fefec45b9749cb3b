-- Laws of words of 32 bits and their bytes.
use mathlib.Core.Path.{◌≡◌, refl, sym, ap, ap₂, ◌∙◌}
use Prim.Native.Nat.{ℕ, zero, suc, ◌+◌, ◌*◌, ◌/◌, ◌%◌, ◌^◌, ◌<◌}
use mathlib.Core.List.{List, [], ◌∷◌, ◌++◌}
use native.Mathlib.Nat.{suc-mul, mod-eq_of_lt}
use native.Mathlib.Numerals.{add-four}
use native.Mathlib.Omega.{arith}
use lib.ListN.{length, replicate}
use lib.Pow.{shr-shr, shr_lt, split}
use Rattle.sha2_common.specs.Words.{word_of, to_bytes, to_words, Words}
use Rattle.sha2_common.specs.Words.Words.{none, more}

-- a word is put together again from its bytes
word_of-bytes : (w : ℕ) → w < 2 ^ 32 → word_of (w / 2 ^ 24 % 2 ^ 8) (w / 2 ^ 16 % 2 ^ 8) (w / 2 ^ 8 % 2 ^ 8) (w % 2 ^ 8) ≡ w
word_of-bytes w h =
    ap (λ (x : ℕ). word_of x (w / 2 ^ 16 % 2 ^ 8) (w / 2 ^ 8 % 2 ^ 8) (w % 2 ^ 8)) (mod-eq_of_lt (shr_lt 8 24 h))
    ∙ parts w (w / 2 ^ 8) (w / 2 ^ 16) (w / 2 ^ 24) (w % 2 ^ 8) (w / 2 ^ 8 % 2 ^ 8) (w / 2 ^ 16 % 2 ^ 8) (split w 8) (next 8) (next 16)
  where
    parts : (w q₁ q₂ q₃ r₀ r₁ r₂ : ℕ) → q₁ * 2 ^ 8 + r₀ ≡ w → q₂ * 2 ^ 8 + r₁ ≡ q₁ → q₃ * 2 ^ 8 + r₂ ≡ q₂
        → word_of q₃ r₂ r₁ r₀ ≡ w
    parts w q₁ q₂ q₃ r₀ r₁ r₂ a b c = omega arith

    next : (k : ℕ) → w / 2 ^ (k + 8) * 2 ^ 8 + w / 2 ^ k % 2 ^ 8 ≡ w / 2 ^ k
    next k = ap (λ (q : ℕ). q * 2 ^ 8 + w / 2 ^ k % 2 ^ 8) (sym (shr-shr w k 8)) ∙ split (w / 2 ^ k) 8

pub to_words-to_bytes : {ws : List ℕ} (bs : List ℕ) → Words ws → to_words (to_bytes ws ++ bs) ≡ ws ++ to_words bs
unfolding to_words to_bytes
to_words-to_bytes bs none = refl
to_words-to_bytes bs (more {w} {ws} h r) = ap₂ (λ (x : ℕ) (l : List ℕ). x ∷ l) (word_of-bytes w h) (to_words-to_bytes bs r)

pub length-to_bytes : (ws : List ℕ) → length (to_bytes ws) ≡ length ws * 4
unfolding to_bytes
length-to_bytes [] = refl
length-to_bytes (w ∷ ws) = let h : length (to_bytes ws) ≡ length ws * 4 = length-to_bytes ws in omega arith

pub to_words-zeros : (z : ℕ) (bs : List ℕ) → to_words (replicate (z * 4) 0 ++ bs) ≡ replicate z 0 ++ to_words bs
unfolding to_words
to_words-zeros zero bs = refl
to_words-zeros (suc z) bs =
    ap (λ (k : ℕ). to_words (replicate k 0 ++ bs)) (suc-mul z 4 ∙ add-four (z * 4)) ∙ ap (λ (l : List ℕ). 0 ∷ l) (to_words-zeros z bs)
