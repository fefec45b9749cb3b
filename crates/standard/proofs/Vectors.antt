-- NIST's examples for FIPS 180-4 and vectors of the CAVP, of one block each, as one theorem about the definitions: computed, step by step.
use mathlib.Core.Path.{◌≡◌, refl}
use mathlib.Core.List.{[], ◌∷◌}
use Rattle.sha256_block.specs.Fips.{big_sigma0, big_sigma1, small_sigma0, small_sigma1, K, to_bytes, to_words, zero_bits, length_field, byte_padding}
use Rattle.sha256_block.specs.Fips.{H0, message_word, schedule, t1, t2, round, rounds, intermediate, compress, hash_value, sha256, padding, sha256_words}

-- the message of no bytes; "abc"; 32 bits of the CAVP, as a message of one word
pub vectors
    : (sha256 []
    ≡ to_bytes (0xe3b0_c442 ∷ 0x98fc_1c14 ∷ 0x9afb_f4c8 ∷ 0x996f_b924 ∷ 0x27ae_41e4 ∷ 0x649b_934c ∷ 0xa495_991b ∷ 0x7852_b855 ∷ []))
    × (sha256 (0x61 ∷ 0x62 ∷ 0x63 ∷ [])
    ≡ to_bytes (0xba78_16bf ∷ 0x8f01_cfea ∷ 0x4141_40de ∷ 0x5dae_2223 ∷ 0xb003_61a3 ∷ 0x9617_7a9c ∷ 0xb410_ff61 ∷ 0xf200_15ad ∷ []))
    × (sha256_words (0x74ba_2521 ∷ [])
    ≡ 0xb16a_a56b ∷ 0xe388_0d18 ∷ 0xcd41_e683 ∷ 0x84cf_1ec8 ∷ 0xc176_80c4 ∷ 0x5a02_b157 ∷ 0x5dc1_5189 ∷ 0x23ae_8b0e ∷ [])
unfolding sha256 byte_padding to_bytes to_words sha256_words padding zero_bits length_field hash_value compress intermediate rounds round t1 t2 schedule message_word H0 K big_sigma0 big_sigma1 small_sigma0 small_sigma1
vectors = (refl, refl, refl)
