-- NIST's examples for FIPS 180-4 and vectors of the CAVP, of one block each, as one theorem about the definitions: computed, step by step.
use mathlib.Core.Path.{◌≡◌, refl}
use mathlib.Core.List.{[], ◌∷◌}
use Rattle.sha512_block.specs.Fips.{big_sigma0, big_sigma1, small_sigma0, small_sigma1, K, to_bytes, to_words, zero_bits, length_field, byte_padding}
use Rattle.sha512_block.specs.Fips.{H0-384, H0-512, message_word, schedule, t1, t2, round, rounds, intermediate, compress, hash_value, sha384, sha512}
use Rattle.sha512_block.specs.Fips.{from_halves, to_halves, padding, hash_words, sha384_words, sha512_words}

-- "abc"; 32 bits of the CAVP, as a message of one word: half of a word of 64 bits, with padding behind it
pub vectors
    : (sha384 (0x61 ∷ 0x62 ∷ 0x63 ∷ [])
    ≡ to_bytes
    (0xcb00_753f_45a3_5e8b ∷ 0xb5a0_3d69_9ac6_5007 ∷ 0x272c_32ab_0ede_d163 ∷ 0x1a8b_605a_43ff_5bed ∷
    0x8086_072b_a1e7_cc23 ∷ 0x58ba_eca1_34c8_25a7 ∷ []))
    × (sha512 (0x61 ∷ 0x62 ∷ 0x63 ∷ [])
    ≡ to_bytes
    (0xddaf_35a1_9361_7aba ∷ 0xcc41_7349_ae20_4131 ∷ 0x12e6_fa4e_89a9_7ea2 ∷ 0x0a9e_eee6_4b55_d39a ∷
    0x2192_992a_274f_c1a8 ∷ 0x36ba_3c23_a3fe_ebbd ∷ 0x454d_4423_643c_e80e ∷ 0x2a9a_c94f_a54c_a49f ∷ []))
    × (sha384_words (0x50e3_853d ∷ [])
    ≡ 0x936a_3c39 ∷ 0x9171_6ba4 ∷ 0xc413_bc03 ∷ 0xde20_f5ce ∷ 0x1c63_703b ∷ 0x3a5b_db6a ∷ 0xb558_c9ff ∷ 0x70d5_37e4 ∷
    0x6eb4_a15d ∷ 0x9f2c_85e6 ∷ 0x8d86_78de ∷ 0x5682_695e ∷ [])
    × (sha512_words (0x23be_86d5 ∷ [])
    ≡ 0x76d4_2c8e ∷ 0xadea_35a6 ∷ 0x9990_c63a ∷ 0x762f_3306 ∷ 0x14a4_6999 ∷ 0x77f0_58ad ∷ 0xb988_f406 ∷ 0xfb0b_e8f2 ∷
    0xea3d_ce3a ∷ 0x2bbd_1d82 ∷ 0x7b70_b9b2 ∷ 0x99ae_6f9e ∷ 0x5058_ee97 ∷ 0xb50b_d492 ∷ 0x2d6d_37dd ∷ 0xc761_f8eb ∷ [])
unfolding sha512 sha384 byte_padding to_bytes to_words sha512_words sha384_words hash_words from_halves to_halves padding zero_bits length_field hash_value compress intermediate rounds round t1 t2 schedule message_word H0-384 H0-512 K big_sigma0 big_sigma1 small_sigma0 small_sigma1
vectors = (refl, refl, refl, refl)
