-- Laws of digests: which hash a curve has, and how long its digest is. Paper: request (ix). Assumes nothing.
use Prim.Native.Nat.{ℕ, ◌≤◌, ◌<◌}
use native.Mathlib.Omega.{arith}
use mathlib.Core.Path.{◌≡◌, sym, ap, ◌∙◌}
use mathlib.Core.Logic.{◌≢◌}
use mathlib.Core.List.{List, [], append-nil}
use lib.ListN.{length, take, replicate}
use lib.Seq.{sets}
use borrow.Author.Tests.{ne_eqb}
use Rattle.model.specs.Lists.{if◌then◌otherwise◌}
use Rattle.model.specs.Format.{Curve, secp256r1, longest_address}
use Rattle.model.specs.Traits.{curve_of, format_with}
use Rattle.model.specs.History.{History}
use Rattle.model.specs.Sound.{Sound}
use Rattle.model.specs.Report.{filled}
use Rattle.model.proofs.Traits.{by-curve}
use Rattle.model.proofs.Report.{filled-rows}
use Rattle.words.proofs.Writing.{sets-zeros}
use Rattle.sha256_block.specs.Fips.{sha256_words}
use Rattle.sha256_blocks.proofs.Blocks.{length-sha256_words}
use Rattle.sha512_block.specs.Fips.{sha384_words, sha512_words}
use Rattle.sha512_block.proofs.Agree.{length-sha384_words, length-sha512_words}
use Rattle.format.specs.Format as format
use Rattle.format.specs.Format.{hashes, format_of}
use Rattle.digests.specs.Digest.{hash_by}
use Rattle.digests.proofs.Curves as curves

-- a digest is as long as the curve's addresses: 8, 12 or 16 words
pub digest-length : (n : ℕ) (message : List ℕ) → length (hash_by n message) ≡ (curve_of n).address
digest-length n message = by-curve (λ (c : Curve). length (c.hash hashes message) ≡ c.address)
    (length-sha256_words message) (length-sha384_words message) (length-sha512_words message) n

-- so that of a board's hash is as long as the board's addresses
pub board-digest : (ws message : List ℕ) → length ((format_of ws).hash message) ≡ (format_of ws).address
board-digest ws message = digest-length (format.curve_number_of ws) message

-- and stands in front of the zeros
pub board-digest-first : (ws message : List ℕ) → take (format_of ws).address (filled longest_address ((format_of ws).hash message)) ≡ (format_of ws).hash message
board-digest-first ws message = rw (← board-digest ws message) (filled-rows longest_address ((format_of ws).hash message))

-- with these hashes each of the six formats has a sound board
pub some-board : (t : ℕ) → t < 6 → (ws : List ℕ) × (vs : List ℕ) × (h : History) × (format_of ws ≡ format_with hashes t) × Sound (format_of ws) ws vs [] h
some-board = curves.some-board hashes (λ m. (length-sha256_words m, length-sha384_words m, length-sha512_words m))

-- no address is longer than the longest
longest : (n : ℕ) → (curve_of n).address ≤ longest_address
longest = by-curve (λ (c : Curve). c.address ≤ longest_address) (omega arith) (omega arith) (omega arith)

-- the hash of each curve, by its number
module _ (curve : ℕ) (message : List ℕ) where
  by-512 : curve ≡ 2 → sha512_words message ≡ hash_by curve message
  unfolding curve_of if◌then◌otherwise◌
  by-512 e = rw e

  pub by-384 : curve ≡ 1 → sha384_words message ≡ hash_by curve message
  unfolding curve_of if◌then◌otherwise◌
  by-384 e = rw e

  other-curve : curve ≢ 2 → curve ≢ 1 → curve_of curve ≡ secp256r1
  unfolding curve_of if◌then◌otherwise◌
  other-curve two one = rw (ne_eqb curve 1 one, ne_eqb curve 2 two)

  pub by-256 : curve ≢ 2 → curve ≢ 1 → sha256_words message ≡ hash_by curve message
  by-256 two one = ap (λ (c : Curve). c.hash hashes message) (sym (other-curve two one))

  -- one of 16 words has no zeros behind it
  pub whole-512 : curve ≡ 2 → {r : List ℕ} → r ≡ sha512_words message → r ≡ filled longest_address (hash_by curve message)
  unfolding filled
  whole-512 e q = rw (← by-512 e, length-sha512_words) (q ∙ sym (append-nil (sha512_words message)))

  -- one that is written over zeros has the rest of them behind it
  pub digest-put : {d r : List ℕ} → d ≡ hash_by curve message → r ≡ sets (replicate longest_address 0) 0 d → r ≡ filled longest_address (hash_by curve message)
  digest-put q p = p ∙ rw q (sets-zeros longest_address (hash_by curve message) (rw digest-length (longest curve)))
