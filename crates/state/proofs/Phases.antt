-- The phase of a type as a test of its code. Assumes nothing.
use Prim.Native.Nat.{ℕ, ◌<◌}
use native.Mathlib.Omega.{arith}
use mathlib.Core.Path.{◌≡◌}
use mathlib.Core.Bool.{Bool, true, false}
use borrow.Author.Tests.{lt-leb}
use Rattle.model.specs.Lists.{if◌then◌otherwise◌}
use Rattle.model.specs.Words.{between}
use Rattle.model.proofs.Tests.{by-test, passes, facts}
use Rattle.format.specs.Phase.{phase_of}
use Rattle.format.specs.declared.phase.Phase.{Phase}
use Rattle.format.specs.declared.phase.Phase.TheVariants.{Config, Voting, Extraction, Track}
use Rattle.format.specs.contracts.phase.PhasePartialEq.TheImpl.{eq-value}
use Rattle.std.specs.Option.{option_eq}
use Rattle.std.specs.Prelude.{Some}

-- a number between two is not between two others that lie higher
apart : (a b c d n : ℕ) → b < c → between a b n ≡ true → between c d n ≡ false
apart a b c d n l t = let in-low = simp facts at (passes t) in rw (lt-leb c n (omega arith))

-- whether a type is of a phase, as `==` tells
abbrev pub in_phase : Phase → ℕ → Bool
in_phase p n = option_eq eq-value.it (phase_of n) (Some p)

module _ (n : ℕ) where
  pub config-phase : in_phase Config n ≡ between 1 6 n
  unfolding phase_of if◌then◌otherwise◌
  config-phase =
      by-test (between 1 6 n) (λ q. rw q) (λ q. rw q
      (by-test (between 16 21 n) (λ r. rw r) (λ r. rw r
      (by-test (between 32 34 n) (λ s. rw s) (λ s. rw s
      (by-test (between 48 51 n) (λ t. rw t) (λ t. rw t)))))))

  pub voting-phase : in_phase Voting n ≡ between 16 21 n
  unfolding phase_of if◌then◌otherwise◌
  voting-phase =
      by-test (between 1 6 n) (λ q. rw (q, apart 1 6 16 21 n (omega arith) q)) (λ q. rw q
      (by-test (between 16 21 n) (λ r. rw r) (λ r. rw r
      (by-test (between 32 34 n) (λ s. rw s) (λ s. rw s
      (by-test (between 48 51 n) (λ t. rw t) (λ t. rw t)))))))

  pub extraction-phase : in_phase Extraction n ≡ between 32 34 n
  unfolding phase_of if◌then◌otherwise◌
  extraction-phase =
      by-test (between 1 6 n) (λ q. rw (q, apart 1 6 32 34 n (omega arith) q)) (λ q. rw q
      (by-test (between 16 21 n) (λ r. rw (r, apart 16 21 32 34 n (omega arith) r)) (λ r. rw r
      (by-test (between 32 34 n) (λ s. rw s) (λ s. rw s
      (by-test (between 48 51 n) (λ t. rw t) (λ t. rw t)))))))

  pub track-phase : in_phase Track n ≡ between 48 51 n
  unfolding phase_of if◌then◌otherwise◌
  track-phase =
      by-test (between 1 6 n) (λ q. rw (q, apart 1 6 48 51 n (omega arith) q)) (λ q. rw q
      (by-test (between 16 21 n) (λ r. rw (r, apart 16 21 48 51 n (omega arith) r)) (λ r. rw r
      (by-test (between 32 34 n) (λ s. rw (s, apart 32 34 48 51 n (omega arith) s)) (λ s. rw s
      (by-test (between 48 51 n) (λ t. rw t) (λ t. rw t)))))))
