-- SHA-384 and SHA-512 over messages of words of 32 bits, as sha2 has a hash: they differ in H(0) and in how much of H(N) is the digest.
use Rattle.std.specs.Prelude.{ℕ, List}
use Rattle.sha2_common.specs.Blocks as sha2
use Rattle.sha2_common.specs.Blocks.{HashFunction}
use Rattle.sha512_block.specs.Fips.{from_halves, compress, padding}

-- a block has 16 words of 64 bits, which are 32 of 32 bits
abbrev pub sha512_function : HashFunction
sha512_function = record { size = 32; compress = λ H m. compress H (from_halves m); padding = padding }

-- the hash value H after the first n blocks of ws
abbrev pub hash_from : List ℕ → List ℕ → ℕ → List ℕ
hash_from = sha2.hash_from sha512_function

-- the hash value H after all whole blocks of ws
abbrev pub hash_over : List ℕ → List ℕ → List ℕ
hash_over = sha2.hash_over sha512_function
