-- What is read of standard input, by the hash of the messages behind a line in place of the bits.
use Rattle.std.specs.Prelude.{ℕ, cond, Option, Some, None, Result, Ok, Err, eqb}
use Rattle.vectors.specs.Input.{none}
use Rattle.vectors.specs.declared.input.Hash.{Hash}
use Rattle.vectors.specs.declared.input.Hash.TheVariants.{Sha256, Sha384, Sha512}
use Rattle.vectors.specs.declared.input.Unreadable.{Unreadable}

-- the hash that has digests of the bits, if one has
unfoldable pub hash_of : ℕ → Option Hash
hash_of bits = cond (eqb bits 0x256) (Some Sha256) (cond (eqb bits 0x384) (Some Sha384) (cond (eqb bits 0x512) (Some Sha512) None))

-- what bits are read as: an error where they can't be read
unfoldable pub told : ℕ → Result (Option Hash) Unreadable
told bits = cond (eqb bits none) (Err (record {})) (Ok (hash_of bits))
