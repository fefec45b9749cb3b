-- Laws of the hash value over blocks of SHA-256, beside those that sha2 has for any hash.
use mathlib.Core.Path.{◌≡◌, refl, ap}
use mathlib.Core.Logic.{inl}
use Prim.Native.Nat.{ℕ, zero, suc, ◌*◌, ◌/◌}
use mathlib.Core.List.{List}
use lib.ListN.{length, take, drop}
use Rattle.sha2_common.specs.Blocks as sha2
use Rattle.sha2_common.proofs.Places.{Sized}
use Rattle.sha256_block.specs.Fips.{H0, intermediate, compress, hash_value, padded, sha256_words}
use Rattle.sha256_blocks.specs.Blocks.{sha256_function, hash_from}

pub sixteen : Sized sha256_function
sixteen = inl refl

-- ---- hash_value

-- the standard's own is that from H(0) on
pub hash_value-from : (ws : List ℕ) (n : ℕ) → hash_value ws n ≡ hash_from H0 ws n
unfolding hash_value sha2.hash_from
hash_value-from ws zero = refl
hash_value-from ws (suc n) = ap (λ (H : List ℕ). compress H (take 16 (drop (n * 16) ws))) (hash_value-from ws n)

pub length-hash_value : (ws : List ℕ) (n : ℕ) → length (hash_value ws n) ≡ 8
unfolding hash_value H0 compress intermediate
length-hash_value ws zero = refl
length-hash_value ws (suc n) = refl

pub length-sha256_words : (ws : List ℕ) → length (sha256_words ws) ≡ 8
unfolding sha256_words
length-sha256_words ws = length-hash_value (padded ws) (length (padded ws) / 16)
