-- A message that is fed in pieces.
use Rattle.std.specs.Prelude.{ℕ, List, [], ◌∷◌}
use Rattle.sha512.specs.State.{fed}
use Rattle.sha512.specs.declared.Hash.{Hash}
unfoldable pub use Rattle.sha2_common.specs.Pieces.{joined}

-- s with the pieces fed to it in turn, by one call each
unfoldable pub fed_all : Hash → List (List ℕ) → Hash
fed_all s [] = s
fed_all s (p ∷ ps) = fed_all (fed s p) ps
