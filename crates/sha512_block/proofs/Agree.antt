-- The digest of a message of words of 32 bits is the digest of its bytes; it is 12 or 16 words of 32 bits.
use Rattle.std.proofs.Common.{◌≡◌, ℕ, zero, suc, ◌+◌, ◌-◌, ◌*◌, ◌/◌, ◌%◌, ◌^◌, List, [], ◌∷◌, ◌++◌, length, take, replicate, sym, refl, ap, ◌∙◌, ap₂, append-nil, arith, length-take-le, shr-shr}
use lib.Pow.{field, mod-mod-pow}
use Rattle.sha2_common.specs.Words.{word_of as word_of₃₂, to_words as to_words₃₂, to_bytes as to_bytes₃₂, Words}
use Rattle.sha2_common.specs.Words.Words.{none, more}
use Rattle.sha2_common.proofs.Words.{to_words-to_bytes, length-to_bytes, to_words-zeros}
use Rattle.sha512_block.specs.Fips.{word_of, to_words, to_bytes, of_halves, from_halves, to_halves, zero_bits, length_field, byte_padding, padding, padded}
use Rattle.sha512_block.specs.Fips.{intermediate, compress, hash_value, hash_blocks, H0-384, H0-512, sha384, sha512, hash_words, sha384_words, sha512_words}
use Rattle.sha512_block.proofs.Padding.{zero_bits-bytes, zero_bits-words}
use Rattle.sha512_block.proofs.Halves.{length-halves}

-- ---- bytes

-- eight bytes are two words of 32 bits
word_of-halves : (a b c d e f g h : ℕ) → word_of a b c d e f g h ≡ of_halves (word_of₃₂ a b c d) (word_of₃₂ e f g h)
word_of-halves a b c d e f g h = omega arith

to_words-from : (bs : List ℕ) → to_words bs ≡ from_halves (to_words₃₂ bs)
unfolding to_words to_words₃₂ from_halves
to_words-from [] = refl
to_words-from (a ∷ []) = refl
to_words-from (a ∷ b ∷ []) = refl
to_words-from (a ∷ b ∷ c ∷ []) = refl
to_words-from (a ∷ b ∷ c ∷ d ∷ []) = refl
to_words-from (a ∷ b ∷ c ∷ d ∷ e ∷ []) = refl
to_words-from (a ∷ b ∷ c ∷ d ∷ e ∷ f ∷ []) = refl
to_words-from (a ∷ b ∷ c ∷ d ∷ e ∷ f ∷ g ∷ []) = refl
to_words-from (a ∷ b ∷ c ∷ d ∷ e ∷ f ∷ g ∷ h ∷ bs) = ap₂ (λ (x : ℕ) (l : List ℕ). x ∷ l) (word_of-halves a b c d e f g h) (to_words-from bs)

infixr 50 ◌then◌
◌then◌ : {x y : ℕ} {l r : List ℕ} → x ≡ y → l ≡ r → ◌≡◌ {A = List ℕ} (x ∷ l) (y ∷ r)
e then f = ap₂ (λ (x : ℕ) (l : List ℕ). x ∷ l) e f

-- a byte of x is one of the lower 32 bits of x, where j bits of these are above it and k below
low_byte : (x j k : ℕ) → x / 2 ^ k % 2 ^ 8 ≡ x % 2 ^ (j + 8 + k) / 2 ^ k % 2 ^ 8
low_byte x j k = sym (ap (λ (n : ℕ). n % 2 ^ 8) (field x (j + 8) k) ∙ mod-mod-pow (x / 2 ^ k) j 8)

high_byte : (x j k : ℕ) → x / 2 ^ (32 + k) % 2 ^ 8 ≡ x / 2 ^ 32 % 2 ^ (j + 8 + k) / 2 ^ k % 2 ^ 8
high_byte x j k = ap (λ (n : ℕ). n % 2 ^ 8) (sym (shr-shr x 32 k)) ∙ low_byte (x / 2 ^ 32) j k

lowest-byte : (x : ℕ) → x % 2 ^ 8 ≡ x % 2 ^ 32 % 2 ^ 8
lowest-byte x = sym (mod-mod-pow x 24 8)

-- the bytes of words are those of their halves
to_bytes-halves : (ws : List ℕ) → to_bytes ws ≡ to_bytes₃₂ (to_halves ws)
unfolding to_bytes to_bytes₃₂ to_halves
to_bytes-halves [] = refl
to_bytes-halves (w ∷ ws) =
    high_byte w 0 24 then high_byte w 8 16 then high_byte w 16 8 then lowest-byte (w / 2 ^ 32)
    then low_byte w 0 24 then low_byte w 8 16 then low_byte w 16 8 then lowest-byte w then to_bytes-halves ws

words-halves : (ws : List ℕ) → Words (to_halves ws)
unfolding to_halves
words-halves [] = none
words-halves (w ∷ ws) = more {w = w / 2 ^ 32 % 2 ^ 32} (omega arith) (more {w = w % 2 ^ 32} (omega arith) (words-halves ws))

-- ---- padding

-- the zero bytes of n words are those left of the padding's first word, and whole words
zero_bytes : (n : ℕ) → zero_bits (n * 4 * 8) / 8 ≡ suc (suc (suc (zero_bits (n * 32) / 32 * 4)))
zero_bytes n = zero_bits-bytes (n * 4) ∙ by-words n ∙ ap (λ (z : ℕ). suc (suc (suc (z * 4)))) (sym (zero_bits-words n))
  where
    by-words : (n : ℕ) → (239 - n * 4 % 128) % 128 ≡ suc (suc (suc ((59 - n % 32) % 32 * 4)))
    by-words n = omega arith

to_words-byte_padding : (n : ℕ) → to_words₃₂ (byte_padding (n * 4)) ≡ padding n
unfolding byte_padding padding to_words₃₂
to_words-byte_padding n =
    ap₂ (λ (k l : ℕ). to_words₃₂ (0x80 ∷ replicate k 0 ++ to_bytes (length_field l))) (zero_bytes n) (bits n)
    ∙ ap (λ (l : List ℕ). 0x8000_0000 ∷ l)
    (to_words-zeros (zero_bits (n * 32) / 32) (to_bytes (length_field (n * 32)))
    ∙ ap (λ (l : List ℕ). replicate (zero_bits (n * 32) / 32) 0 ++ l) halves)
  where
    bits : (n : ℕ) → n * 4 * 8 ≡ n * 32
    bits n = omega arith

    halves : to_words₃₂ (to_bytes (length_field (n * 32))) ≡ to_halves (length_field (n * 32))
    halves =
        ap to_words₃₂ (to_bytes-halves (length_field (n * 32)))
        ∙ simp append-nil at (to_words-to_bytes [] (words-halves (length_field (n * 32))))

-- ---- the digests

padded-bytes : (ws : List ℕ) → Words ws → to_words (to_bytes₃₂ ws ++ byte_padding (length (to_bytes₃₂ ws))) ≡ from_halves (padded ws)
padded-bytes ws r =
    ap (λ (k : ℕ). to_words (to_bytes₃₂ ws ++ byte_padding k)) (length-to_bytes ws)
    ∙ to_words-from (to_bytes₃₂ ws ++ byte_padding (length ws * 4))
    ∙ ap from_halves
    (to_words-to_bytes (byte_padding (length ws * 4)) r ∙ ap (λ (l : List ℕ). ws ++ l) (to_words-byte_padding (length ws)))

pub sha512-to_bytes : (ws : List ℕ) → Words ws → sha512 (to_bytes₃₂ ws) ≡ to_bytes₃₂ (sha512_words ws)
unfolding sha512 sha512_words hash_words
sha512-to_bytes ws r = ap (λ (l : List ℕ). to_bytes (hash_blocks H0-512 l)) (padded-bytes ws r) ∙ to_bytes-halves (hash_words H0-512 ws)

pub sha384-to_bytes : (ws : List ℕ) → Words ws → sha384 (to_bytes₃₂ ws) ≡ to_bytes₃₂ (sha384_words ws)
unfolding sha384 sha384_words hash_words
sha384-to_bytes ws r =
    ap (λ (l : List ℕ). to_bytes (take 6 (hash_blocks H0-384 l))) (padded-bytes ws r) ∙ to_bytes-halves (take 6 (hash_words H0-384 ws))

pub words-sha512_words : (ws : List ℕ) → Words (sha512_words ws)
unfolding sha512_words
words-sha512_words ws = words-halves (hash_words H0-512 ws)

pub words-sha384_words : (ws : List ℕ) → Words (sha384_words ws)
unfolding sha384_words
words-sha384_words ws = words-halves (take 6 (hash_words H0-384 ws))

length-hash_value : (start ws : List ℕ) (n : ℕ) → length start ≡ 8 → length (hash_value start ws n) ≡ 8
unfolding hash_value compress intermediate
length-hash_value start ws zero p = p
length-hash_value start ws (suc n) p = refl

length-hash_words : (start ws : List ℕ) → length start ≡ 8 → length (hash_words start ws) ≡ 8
unfolding hash_words
length-hash_words start ws p = length-hash_value start (from_halves (padded ws)) (length (from_halves (padded ws)) / 16) p

pub length-sha512_words : (ws : List ℕ) → length (sha512_words ws) ≡ 16
unfolding sha512_words H0-512
length-sha512_words ws =
    length-halves (hash_words H0-512 ws) ∙ ap (λ (n : ℕ). n * 2) (length-hash_words H0-512 ws refl)

pub length-sha384_words : (ws : List ℕ) → length (sha384_words ws) ≡ 12
unfolding sha384_words H0-384
length-sha384_words ws =
    let n = length-hash_words H0-384 ws refl in
    length-halves (take 6 (hash_words H0-384 ws)) ∙ ap (λ (n : ℕ). n * 2) (length-take-le 6 (hash_words H0-384 ws) (omega (arith, n)))
