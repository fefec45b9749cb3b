-- Request (iii), whole: "Show that the same words, fed in any pieces, empty ones too, give the same hash", and that "whenever the partly
-- filled block is empty" no word of "each full block that follows" is stored in it.
-- The contracts of the code are equations with the definitions of specs/State.antt: `Hash::new` gives `fresh`, `Hash::word` and
-- `Hash::words` give `fed`, `Hash::finish` gives `digest_of`.
use mathlib.Core.Path.{◌≡◌, refl, sym, ap, ◌∙◌}
use Prim.Native.Nat.{ℕ, ◌+◌, ◌*◌, ◌%◌, ◌^◌, ◌<◌}
use mathlib.Core.List.{List, [], ◌∷◌, ◌++◌, append_assoc, append-nil}
use native.Mathlib.Omega.{arith}
use lib.ListN.{length, length-append}
use Rattle.sha2_common.specs.State.{block_after}
use Rattle.sha2_common.proofs.Pieces as sha2
use Rattle.sha256_block.specs.Fips.{sha256_words}
use Rattle.sha256_blocks.specs.Blocks.{sha256_function}
use Rattle.sha256_blocks.proofs.Blocks.{sixteen}
use Rattle.sha256.specs.State.{fresh, fed, digest_of, Holds}
use Rattle.sha256.specs.Pieces.{joined, fed_all}
use Rattle.sha256.specs.declared.Hash.{Hash}
use Rattle.sha256.proofs.Holds.{holds-fresh, holds-fed, digest-held}

-- ---- any pieces give one digest

-- after pieces fed in turn the hash stands for the words that they join to, behind those that it stood for before
pub holds-pieces : (s : Hash) (m : List ℕ) (ps : List (List ℕ)) → Holds s m → Holds (fed_all s ps) (m ++ joined ps)
unfolding joined fed_all
holds-pieces s m [] g = rw append-nil g
holds-pieces s m (p ∷ ps) g = rw append_assoc at (holds-pieces (fed s p) (m ++ p) ps (holds-fed p g refl))

-- whatever the pieces, the digest is that of the words that they join to
pub digest-pieces : (ps : List (List ℕ)) → digest_of (fed_all fresh ps) ≡ sha256_words (joined ps)
digest-pieces ps = digest-held (holds-pieces fresh [] ps holds-fresh)

-- so two ways to cut the same words end in the same digest
pub same-digest : (ps qs : List (List ℕ)) → joined ps ≡ joined qs → digest_of (fed_all fresh ps) ≡ digest_of (fed_all fresh qs)
same-digest ps qs e = digest-pieces ps ∙ ap sha256_words e ∙ sym (digest-pieces qs)

-- ---- of any length up to the standard's own

-- every call on the way is allowed, and so is `Hash::finish`, where the message has fewer than 2 ^ 64 bits (FIPS 180-4, 1)
pub pieces-allowed : (ps : List (List ℕ)) (p : List ℕ) → length (joined ps ++ p) * 32 < 2 ^ 64
    → ((fed_all fresh ps).running.count + length p) * 32 < 2 ^ 64
pieces-allowed ps p l =
    let c = (holds-pieces fresh [] ps holds-fresh).counted in
    let n = length-append (joined ps) p in
    omega (arith, c, n, l)

-- ---- whole blocks are not stored

-- whole blocks ys that are fed where the block is empty, in one piece with words before and behind them: no word of theirs is left in it
pub whole-unstored : (b : List ℕ) (k : ℕ) (xs ys zs : List ℕ) → (k + length xs) % 16 ≡ 0 → length ys % 16 ≡ 0
    → block_after sha256_function b k (xs ++ ys ++ zs) ≡ block_after sha256_function b k (xs ++ zs)
whole-unstored = sha2.whole-unstored sha256_function sixteen
