-- The digest of a message of words is the digest of its bytes.
use Rattle.std.proofs.Common.{◌≡◌, ℕ, suc, ◌-◌, ◌*◌, ◌/◌, ◌%◌, ◌^◌, List, [], ◌∷◌, ◌++◌, length, replicate, sym, ap, ◌∙◌, append-nil, arith}
use Rattle.sha2_common.specs.Words.{Words}
use Rattle.sha2_common.specs.Words.Words.{none, more}
use Rattle.sha2_common.proofs.Words.{to_words-to_bytes, length-to_bytes, to_words-zeros}
use Rattle.sha256_block.specs.Fips.{to_words, to_bytes, zero_bits, length_field, byte_padding, hash_blocks, sha256, padding, sha256_words}
use Rattle.sha256_block.proofs.Padding.{zero_bits-bytes, zero_bits-words}

-- ---- padding

-- the zero bytes of n words are those left of the padding's first word, and whole words
zero_bytes : (n : ℕ) → zero_bits (n * 4 * 8) / 8 ≡ suc (suc (suc (zero_bits (n * 32) / 32 * 4)))
zero_bytes n = zero_bits-bytes (n * 4) ∙ by-words n ∙ ap (λ (z : ℕ). suc (suc (suc (z * 4)))) (sym (zero_bits-words n))
  where
    by-words : (n : ℕ) → (119 - n * 4 % 64) % 64 ≡ suc (suc (suc ((29 - n % 16) % 16 * 4)))
    by-words n = omega arith

words-length_field : (l : ℕ) → Words (length_field l)
unfolding length_field
words-length_field l = more {w = l / 2 ^ 32 % 2 ^ 32} (omega arith) (more {w = l % 2 ^ 32} (omega arith) none)

to_words-byte_padding : (n : ℕ) → to_words (byte_padding (n * 4)) ≡ padding n
unfolding byte_padding padding to_words length_field
to_words-byte_padding n =
    ap (λ (k : ℕ). to_words (0x80 ∷ replicate k 0 ++ to_bytes (length_field (n * 4 * 8)))) (zero_bytes n)
    ∙ ap (λ (l : List ℕ). 0x8000_0000 ∷ l)
    (to_words-zeros (zero_bits (n * 32) / 32) (to_bytes (length_field (n * 4 * 8)))
    ∙ ap (λ (l : List ℕ). replicate (zero_bits (n * 32) / 32) 0 ++ l) (field ∙ ap length_field (bits n)))
  where
    bits : (n : ℕ) → n * 4 * 8 ≡ n * 32
    bits n = omega arith

    field : to_words (to_bytes (length_field (n * 4 * 8))) ≡ length_field (n * 4 * 8)
    field = simp append-nil at (to_words-to_bytes [] (words-length_field (n * 4 * 8)))

-- ---- the digest

pub sha256-to_bytes : (ws : List ℕ) → Words ws → sha256 (to_bytes ws) ≡ to_bytes (sha256_words ws)
unfolding sha256 sha256_words
sha256-to_bytes ws r =
    ap (λ (l : List ℕ). to_bytes (hash_blocks l))
    (ap (λ (k : ℕ). to_words (to_bytes ws ++ byte_padding k)) (length-to_bytes ws) ∙ to_words-to_bytes (byte_padding (length ws * 4)) r
    ∙ ap (λ (l : List ℕ). ws ++ l) (to_words-byte_padding (length ws)))
