-- What the entry for other languages answers and leaves in the eight words lent for the digest.
use Rattle.std.specs.Prelude.{◌≡◌, Bool, cond, ℕ, ◌^◌, List, ltb, length}
use Rattle.sha256_block.specs.Fips.{sha256_words}

-- FIPS 180-4, 1: a message has less than 2 ^ 64 bits
abbrev pub short : List ℕ → Bool
short ws = ltb (length ws) (2 ^ 59)

-- a short message gives true and its digest, any other false and the words as they were
pub record Answer (words digest : List ℕ) (answer : Bool) (digest' : List ℕ) : Type 0 where
  pub told : answer ≡ short words
  pub written : digest' ≡ cond (short words) (sha256_words words) digest
