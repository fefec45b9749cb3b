-- A file of which a buffer holds the first bytes. Paper: "The auditing program". Assumes nothing.
use Rattle.std.specs.Prelude.{ℕ, ◌≡◌, List, length, take}

-- the file has so many bytes, and the buffer as many of them as it has room for
pub record Read (buffer : List ℕ) (size : ℕ) (file : List ℕ) : Type 0 where
  pub whole : length file ≡ size
  pub bytes : take (length buffer) file ≡ take size buffer
