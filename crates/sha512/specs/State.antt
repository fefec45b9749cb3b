-- The running hash of SHA-384 and SHA-512, as sha2 has it: nothing fed yet, words fed, and the digest.
use Rattle.std.specs.Prelude.{ℕ, List, take}
use Rattle.sha2_common.specs.State as sha2
use Rattle.sha2_common.specs.State.{Running}
use Rattle.sha512_block.specs.Fips.{H0-384, H0-512, to_halves}
use Rattle.sha512_blocks.specs.Blocks.{sha512_function}
use Rattle.sha512.specs.declared.Hash.{Hash}

-- as sha2's record
abbrev pub running : Hash → Running
running s = sha2.running s.running

abbrev pub hash : Running → Hash
hash s = record { running = record { chain = s.chain; block = s.block; count = s.count } }

-- nothing fed yet
unfoldable pub fresh384 : Hash
fresh384 = hash (sha2.fresh sha512_function H0-384)

unfoldable pub fresh512 : Hash
fresh512 = hash (sha2.fresh sha512_function H0-512)

-- s with the words xs fed to it
unfoldable pub fed : Hash → List ℕ → Hash
fed s xs = hash (sha2.fed sha512_function (running s) xs)

-- the hash value H(N) of what s was fed, with its padding
unfoldable pub ended : Hash → List ℕ
ended s = sha2.ended sha512_function (running s)

-- the digest of what s was fed, in words of 32 bits: all of H(N), or its first six words
unfoldable pub digest512_of : Hash → List ℕ
digest512_of s = to_halves (ended s)

unfoldable pub digest384_of : Hash → List ℕ
digest384_of s = to_halves (take 6 (ended s))

-- s stands for the message m, from H(0) on
abbrev pub Holds : List ℕ → Hash → List ℕ → Type 0
Holds start s m = sha2.Holds sha512_function start (running s) m
