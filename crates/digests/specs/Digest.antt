-- The hash of a curve, by its number. Paper: request (ix). Assumes nothing.
use Rattle.std.specs.Prelude.{ℕ, List}
use Rattle.model.specs.Traits.{curve_of}
use Rattle.format.specs.Format.{hashes}

-- "0 SHA-256, 1 SHA-384, 2 SHA-512"
abbrev pub hash_by : ℕ → List ℕ → List ℕ
hash_by curve = (curve_of curve).hash hashes
