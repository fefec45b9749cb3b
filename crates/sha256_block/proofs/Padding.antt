-- Laws of the padding: it is what FIPS 180-4, 5.1.1 says, and how many blocks it makes.
use Rattle.std.proofs.Common.{◌≡◌, ℕ, ◌+◌, ◌-◌, ◌*◌, ◌/◌, ◌%◌, ◌^◌, ◌<◌, ◌≤◌, List, [], ◌∷◌, length, ap, ◌∙◌, mod-eq_of_lt, arith, length-append}
use lib.ListN.{length-replicate}
use Rattle.sha256_block.specs.Fips.{zero_bits, length_field, hash_value, padding, padded, blocks_of, sha256_words}

-- ---- zero_bits: the smallest solution of l + 1 + k ≡ 448 (mod 512)

pub zero_bits-solves : (l : ℕ) → (l + 1 + zero_bits l) % 512 ≡ 448
unfolding zero_bits
zero_bits-solves l = omega arith

pub zero_bits-least : (l k : ℕ) → (l + 1 + k) % 512 ≡ 448 → zero_bits l ≤ k
unfolding zero_bits
zero_bits-least l k h = omega arith

-- the zeros past those in the padding's first byte, in bytes, and past those in its first word, in words
pub zero_bits-bytes : (n : ℕ) → zero_bits (n * 8) / 8 ≡ (119 - n % 64) % 64
unfolding zero_bits
zero_bits-bytes n = omega arith

pub zero_bits-words : (n : ℕ) → zero_bits (n * 32) / 32 ≡ (29 - n % 16) % 16
unfolding zero_bits
zero_bits-words n = omega arith

-- ---- length_field

pub length_field-words : (n : ℕ) → n < 2 ^ 59 → length_field (n * 32) ≡ n * 32 / 2 ^ 32 ∷ n * 32 % 2 ^ 32 ∷ []
unfolding length_field
length_field-words n p = ap (λ (k : ℕ). k ∷ n * 32 % 2 ^ 32 ∷ []) (mod-eq_of_lt (omega arith))

-- ---- length

pub length-padding : (n : ℕ) → length (padding n) ≡ zero_bits (n * 32) / 32 + 3
unfolding padding length_field
length-padding n = simp (length-append, length-replicate) (omega arith)

pub length-padded : (ws : List ℕ) → length (padded ws) ≡ 16 * blocks_of (length ws)
length-padded ws =
    length-append ws (padding (length ws))
    ∙ ap (λ (k : ℕ). length ws + k) (length-padding (length ws) ∙ ap (λ (k : ℕ). k + 3) (zero_bits-words (length ws)))
    ∙ whole (length ws)
  where
    whole : (n : ℕ) → n + ((29 - n % 16) % 16 + 3) ≡ 16 * ((n + 18) / 16)
    whole n = omega arith

-- ---- the number of blocks

pub sha256_words-blocks : (ws : List ℕ) → sha256_words ws ≡ hash_value (padded ws) (blocks_of (length ws))
unfolding sha256_words
sha256_words-blocks ws = ap (hash_value (padded ws)) (ap (λ (n : ℕ). n / 16) (length-padded ws) ∙ back (blocks_of (length ws)))
  where
    back : (k : ℕ) → 16 * k / 16 ≡ k
    back k = omega arith
