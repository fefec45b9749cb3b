-- SHA-256 over messages of words of 32 bits, as sha2 has a hash: the hash value over blocks, from any hash value on.
use Rattle.std.specs.Prelude.{ℕ, List}
use Rattle.sha2_common.specs.Blocks as sha2
use Rattle.sha2_common.specs.Blocks.{HashFunction}
use Rattle.sha256_block.specs.Fips.{compress, padding}

abbrev pub sha256_function : HashFunction
sha256_function = record { size = 16; compress = compress; padding = padding }

-- the hash value H after the first n blocks of ws: 6.2.2 from H on, as Fips `hash_value` is from H(0) on
abbrev pub hash_from : List ℕ → List ℕ → ℕ → List ℕ
hash_from = sha2.hash_from sha256_function

-- the hash value H after all whole blocks of ws
abbrev pub hash_over : List ℕ → List ℕ → List ℕ
hash_over = sha2.hash_over sha256_function
