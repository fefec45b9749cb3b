-- Laws of the padding: it is what FIPS 180-4, 5.1.2 says, and how many blocks it makes.
use Rattle.std.proofs.Common.{◌≡◌, ℕ, ◌+◌, ◌-◌, ◌*◌, ◌/◌, ◌%◌, ◌^◌, ◌<◌, ◌≤◌, List, [], ◌∷◌, length, ap, ◌∙◌, ap₂, arith, length-append}
use lib.Pow.{field, mod-mod-pow}
use lib.ListN.{length-replicate}
use Rattle.sha512_block.specs.Fips.{zero_bits, length_field, to_halves, from_halves, hash_value, padding, padded, blocks_of, hash_words}
use Rattle.sha512_block.proofs.Halves.{length_from}

-- ---- zero_bits: the smallest solution of l + 1 + k ≡ 896 (mod 1024)

pub zero_bits-solves : (l : ℕ) → (l + 1 + zero_bits l) % 1024 ≡ 896
unfolding zero_bits
zero_bits-solves l = omega arith

pub zero_bits-least : (l k : ℕ) → (l + 1 + k) % 1024 ≡ 896 → zero_bits l ≤ k
unfolding zero_bits
zero_bits-least l k h = omega arith

-- the zeros past those in the padding's first byte, in bytes, and past those in its first word of 32 bits, in such words
pub zero_bits-bytes : (n : ℕ) → zero_bits (n * 8) / 8 ≡ (239 - n % 128) % 128
unfolding zero_bits
zero_bits-bytes n = omega arith

pub zero_bits-words : (n : ℕ) → zero_bits (n * 32) / 32 ≡ (59 - n % 32) % 32
unfolding zero_bits
zero_bits-words n = omega arith

-- ---- length_field

-- the length of a message whose words of 32 bits a number of 64 bits counts
pub length_field-words : (n : ℕ) → n < 2 ^ 64
    → to_halves (length_field (n * 32)) ≡ 0 ∷ n / 2 ^ 59 ∷ n / 2 ^ 27 % 2 ^ 32 ∷ n % 2 ^ 27 * 32 ∷ []
unfolding length_field to_halves
length_field-words n p =
    ap₂ (λ (a b : ℕ). a ∷ b ∷ n * 32 % 2 ^ 64 / 2 ^ 32 % 2 ^ 32 ∷ n * 32 % 2 ^ 64 % 2 ^ 32 ∷ [])
    (ap (λ (h : ℕ). h % 2 ^ 64 / 2 ^ 32 % 2 ^ 32) (shifted n) ∙ none (n / 2 ^ 59) (few n p))
    (ap (λ (h : ℕ). h % 2 ^ 64 % 2 ^ 32) (shifted n) ∙ small (n / 2 ^ 59) (few n p))
    ∙ ap₂ (λ (c d : ℕ). 0 ∷ n / 2 ^ 59 ∷ c ∷ d ∷ [])
    (ap (λ (l : ℕ). l % 2 ^ 32) (field (n * 32) 32 32) ∙ mod-mod-pow (n * 32 / 2 ^ 32) 0 32 ∙ middle n)
    (mod-mod-pow (n * 32) 32 32 ∙ lowest n)
  where
    shifted : (n : ℕ) → n * 32 / 2 ^ 64 ≡ n / 2 ^ 59
    shifted n = omega arith

    few : (n : ℕ) → n < 2 ^ 64 → n / 2 ^ 59 < 32
    few n p = omega arith

    none : (h : ℕ) → h < 32 → h % 2 ^ 64 / 2 ^ 32 % 2 ^ 32 ≡ 0
    none h p = omega arith

    small : (h : ℕ) → h < 32 → h % 2 ^ 64 % 2 ^ 32 ≡ h
    small h p = omega arith

    middle : (n : ℕ) → n * 32 / 2 ^ 32 % 2 ^ 32 ≡ n / 2 ^ 27 % 2 ^ 32
    middle n = omega arith

    lowest : (n : ℕ) → n * 32 % 2 ^ 32 ≡ n % 2 ^ 27 * 32
    lowest n = omega arith

-- ---- length

pub length-padding : (n : ℕ) → length (padding n) ≡ zero_bits (n * 32) / 32 + 5
unfolding padding length_field to_halves
length-padding n = simp (length-append, length-replicate) (omega arith)

pub length-padded : (ws : List ℕ) → length (padded ws) ≡ 32 * blocks_of (length ws)
length-padded ws =
    length-append ws (padding (length ws))
    ∙ ap (λ (k : ℕ). length ws + k) (length-padding (length ws) ∙ ap (λ (k : ℕ). k + 5) (zero_bits-words (length ws)))
    ∙ whole (length ws)
  where
    whole : (n : ℕ) → n + ((59 - n % 32) % 32 + 5) ≡ 32 * ((n + 36) / 32)
    whole n = omega arith

-- ---- the number of blocks

-- of 32 words of 32 bits
pub hash_words-halves : (start ws : List ℕ) → hash_words start ws ≡ hash_value start (from_halves (padded ws)) (length (padded ws) / 32)
unfolding hash_words
hash_words-halves start ws =
    ap (hash_value start (from_halves (padded ws))) (ap (λ (n : ℕ). n / 16) (length_from (padded ws)) ∙ halved (length (padded ws)))
  where
    halved : (n : ℕ) → n / 2 / 16 ≡ n / 32
    halved n = omega arith

pub hash_words-blocks : (start ws : List ℕ) → hash_words start ws ≡ hash_value start (from_halves (padded ws)) (blocks_of (length ws))
hash_words-blocks start ws =
    hash_words-halves start ws
    ∙ ap (hash_value start (from_halves (padded ws))) (ap (λ (n : ℕ). n / 32) (length-padded ws) ∙ back (blocks_of (length ws)))
  where
    back : (k : ℕ) → 32 * k / 32 ≡ k
    back k = omega arith
