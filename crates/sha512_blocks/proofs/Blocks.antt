-- The hash value of FIPS 180-4, 6.4.2 is that over blocks of 32 words of 32 bits.
use mathlib.Core.Path.{◌≡◌, refl, ap₂}
use mathlib.Core.Logic.{inr}
use Prim.Native.Nat.{ℕ, zero, suc}
use mathlib.Core.List.{List}
use Rattle.sha2_common.proofs.Places.{Sized}
use Rattle.sha2_common.specs.Blocks as sha2
use Rattle.sha512_block.specs.Fips.{from_halves, compress, hash_value}
use Rattle.sha512_block.proofs.Halves.{block-from}
use Rattle.sha512_blocks.specs.Blocks.{sha512_function, hash_from}

pub thirty_two : Sized sha512_function
thirty_two = inr refl

-- the standard's own takes the words of 64 bits
pub hash_value-from : (start ws : List ℕ) (n : ℕ) → hash_value start (from_halves ws) n ≡ hash_from start ws n
unfolding hash_value sha2.hash_from
hash_value-from start ws zero = refl
hash_value-from start ws (suc n) = ap₂ compress (hash_value-from start ws n) (block-from ws n)
