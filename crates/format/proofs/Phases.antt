-- The phase of a type, by the tests that it passes. Assumes nothing.
use Prim.Native.Nat.{ℕ}
use mathlib.Core.Path.{◌≡◌}
use mathlib.Core.Bool.{true, false}
use Rattle.std.specs.Prelude.{Some, None}
use Rattle.model.specs.Lists.{if◌then◌otherwise◌}
use Rattle.model.specs.Words.{between}
use Rattle.format.specs.declared.phase.Phase.TheVariants.{Config, Voting, Extraction, Track}
use Rattle.format.specs.Phase.{phase_of}

module _ (c : ℕ) where
  pub in-config : between 1 6 c ≡ true → Some Config ≡ phase_of c
  unfolding phase_of if◌then◌otherwise◌
  in-config a = rw a

  pub in-voting : between 1 6 c ≡ false → between 16 21 c ≡ true → Some Voting ≡ phase_of c
  unfolding phase_of if◌then◌otherwise◌
  in-voting a b = rw (a, b)

  pub in-extraction : between 1 6 c ≡ false → between 16 21 c ≡ false → between 32 34 c ≡ true → Some Extraction ≡ phase_of c
  unfolding phase_of if◌then◌otherwise◌
  in-extraction a b d = rw (a, b, d)

  pub in-track : between 1 6 c ≡ false → between 16 21 c ≡ false → between 32 34 c ≡ false → between 48 51 c ≡ true → Some Track ≡ phase_of c
  unfolding phase_of if◌then◌otherwise◌
  in-track a b d e = rw (a, b, d, e)

  pub in-none : between 1 6 c ≡ false → between 16 21 c ≡ false → between 32 34 c ≡ false → between 48 51 c ≡ false → None ≡ phase_of c
  unfolding phase_of if◌then◌otherwise◌
  in-none a b d e = rw (a, b, d, e)
