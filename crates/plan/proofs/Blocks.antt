-- The blocks of a padded message, by its length. Paper: request (x), "the blocks that the standard's padding gives". Assumes nothing.
use Prim.Native.Nat.{ℕ, ◌+◌, ◌/◌, ◌≤◌}
use native.Mathlib.Omega.{arith}
use mathlib.Core.Path.{◌≡◌, sym}
use mathlib.Core.Logic.{◌≢◌}
use borrow.Author.Tests.{eqb-false, ne_eqb}
use lib.Dec.{eqb}
use Rattle.model.specs.Lists.{if◌then◌otherwise◌}
use Rattle.model.proofs.Tests.{by-test}
use Rattle.sha256_block.proofs.Padding as sha256
use Rattle.sha512_block.proofs.Padding as sha512
use Rattle.sha256_blocks.specs.Blocks.{sha256_function}
use Rattle.sha512_blocks.specs.Blocks.{sha512_function}
use Rattle.planning.specs.Plan.{hash_on, blocks_for}

-- of SHA-256, and of SHA-384 and SHA-512
blocks-256 : (n : ℕ) → blocks_for sha256_function n ≡ (n + 18) / 16
unfolding blocks_for
blocks-256 n = rw (sha256.length-padding n, sha256.zero_bits-words n) (omega arith)

blocks-512 : (n : ℕ) → blocks_for sha512_function n ≡ (n + 36) / 32
unfolding blocks_for
blocks-512 n = rw (sha512.length-padding n, sha512.zero_bits-words n) (omega arith)

-- by the number of the curve
pub on-wide : (curve n : ℕ) → 1 ≤ curve → curve ≤ 2 → (n + 36) / 32 ≡ blocks_for (hash_on curve) n
unfolding hash_on if◌then◌otherwise◌
on-wide curve n a b =
    by-test (eqb curve 1) (λ q. rw q (sym (blocks-512 n)))
    (λ q. let two : curve ≡ 2 = omega (arith, eqb-false curve 1 q) in rw two (sym (blocks-512 n)))

pub on-256 : (curve n : ℕ) → curve ≢ 1 → curve ≢ 2 → (n + 18) / 16 ≡ blocks_for (hash_on curve) n
unfolding hash_on if◌then◌otherwise◌
on-256 curve n a b = rw (ne_eqb curve 1 a, ne_eqb curve 2 b) (sym (blocks-256 n))

-- at most one more than the words
pub blocks-few : (curve n : ℕ) → blocks_for (hash_on curve) n ≤ n + 1
unfolding hash_on if◌then◌otherwise◌
blocks-few curve n =
    let few = blocks-256 n in
    let wide = blocks-512 n in
    by-test (eqb curve 1) (λ q. rw q (omega arith)) (λ a. by-test (eqb curve 2) (λ q. rw (a, q) (omega arith)) (λ b. rw (a, b) (omega arith)))
