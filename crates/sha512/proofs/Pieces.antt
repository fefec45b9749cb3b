-- Request (iii) for SHA-384 and SHA-512: "Show that the same words, fed in any pieces, empty ones too, give the same hash", and that
-- "whenever the partly filled block is empty" no word of "each full block that follows" is stored in it.
-- The contracts of the code are equations with the definitions of specs/State.antt: `Hash::new512` gives `fresh512`, `Hash::word` and
-- `Hash::words` give `fed`, `Hash::finish512` gives `digest512_of`, and so for 384.
use mathlib.Core.Path.{◌≡◌, refl, sym, ap, ◌∙◌, subst}
use Prim.Native.Nat.{ℕ, ◌+◌, ◌%◌, ◌^◌, ◌<◌}
use mathlib.Core.List.{List, [], ◌∷◌, ◌++◌, append_assoc, append-nil}
use lib.ListN.{length, length-append}
use Rattle.sha2_common.specs.State.{block_after}
use Rattle.sha2_common.proofs.Pieces as sha2
use Rattle.sha512_block.specs.Fips.{H0-384, H0-512, sha384_words, sha512_words}
use Rattle.sha512_blocks.specs.Blocks.{sha512_function}
use Rattle.sha512_blocks.proofs.Blocks.{thirty_two}
use Rattle.sha512.specs.State.{fresh384, fresh512, fed, digest384_of, digest512_of, Holds}
use Rattle.sha512.specs.Pieces.{joined, fed_all}
use Rattle.sha512.specs.declared.Hash.{Hash}
use Rattle.sha512.proofs.Holds.{holds-fresh384, holds-fresh512, holds-fed, digest384-held, digest512-held}

-- ---- any pieces give one digest

-- after pieces fed in turn the hash stands for the words that they join to, behind those that it stood for before
pub holds-pieces : (start : List ℕ) (s : Hash) (m : List ℕ) (ps : List (List ℕ)) → Holds start s m
    → Holds start (fed_all s ps) (m ++ joined ps)
unfolding joined fed_all
holds-pieces start s m [] g = rw append-nil g
holds-pieces start s m (p ∷ ps) g = rw append_assoc at (holds-pieces start (fed s p) (m ++ p) ps (holds-fed start p g refl))

holds384 : (ps : List (List ℕ)) → Holds H0-384 (fed_all fresh384 ps) (joined ps)
holds384 ps = holds-pieces H0-384 fresh384 [] ps holds-fresh384

holds512 : (ps : List (List ℕ)) → Holds H0-512 (fed_all fresh512 ps) (joined ps)
holds512 ps = holds-pieces H0-512 fresh512 [] ps holds-fresh512

-- whatever the pieces, the digest is that of the words that they join to
pub digest384-pieces : (ps : List (List ℕ)) → digest384_of (fed_all fresh384 ps) ≡ sha384_words (joined ps)
digest384-pieces ps = digest384-held (holds384 ps)

pub digest512-pieces : (ps : List (List ℕ)) → digest512_of (fed_all fresh512 ps) ≡ sha512_words (joined ps)
digest512-pieces ps = digest512-held (holds512 ps)

-- so two ways to cut the same words end in the same digest
pub same-digest384 : (ps qs : List (List ℕ)) → joined ps ≡ joined qs
    → digest384_of (fed_all fresh384 ps) ≡ digest384_of (fed_all fresh384 qs)
same-digest384 ps qs e = digest384-pieces ps ∙ ap sha384_words e ∙ sym (digest384-pieces qs)

pub same-digest512 : (ps qs : List (List ℕ)) → joined ps ≡ joined qs
    → digest512_of (fed_all fresh512 ps) ≡ digest512_of (fed_all fresh512 qs)
same-digest512 ps qs e = digest512-pieces ps ∙ ap sha512_words e ∙ sym (digest512-pieces qs)

-- ---- of any length that a number of 64 bits counts

-- every call on the way is allowed where the message has fewer than 2 ^ 64 words; `Hash::finish384` and `Hash::finish512` always are
allowed : (start : List ℕ) (s : Hash) (m p : List ℕ) → Holds start s m → length (m ++ p) < 2 ^ 64 → s.running.count + length p < 2 ^ 64
allowed start s m p g l =
    subst (λ (n : ℕ). n < 2 ^ 64) (length-append m p ∙ sym (ap (λ (n : ℕ). n + length p) g.counted)) l

pub pieces-allowed384 : (ps : List (List ℕ)) (p : List ℕ) → length (joined ps ++ p) < 2 ^ 64
    → (fed_all fresh384 ps).running.count + length p < 2 ^ 64
pieces-allowed384 ps p = allowed H0-384 (fed_all fresh384 ps) (joined ps) p (holds384 ps)

pub pieces-allowed512 : (ps : List (List ℕ)) (p : List ℕ) → length (joined ps ++ p) < 2 ^ 64
    → (fed_all fresh512 ps).running.count + length p < 2 ^ 64
pieces-allowed512 ps p = allowed H0-512 (fed_all fresh512 ps) (joined ps) p (holds512 ps)

-- ---- whole blocks are not stored

-- whole blocks ys that are fed where the block is empty, in one piece with words before and behind them: no word of theirs is left in it
pub whole-unstored : (b : List ℕ) (k : ℕ) (xs ys zs : List ℕ) → (k + length xs) % 32 ≡ 0 → length ys % 32 ≡ 0
    → block_after sha512_function b k (xs ++ ys ++ zs) ≡ block_after sha512_function b k (xs ++ zs)
whole-unstored = sha2.whole-unstored sha512_function thirty_two
