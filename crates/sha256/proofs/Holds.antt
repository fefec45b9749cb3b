-- What a running hash stands for, as sha2 has it for any hash: its digest is that of the message.
use mathlib.Core.Path.{◌≡◌, sym, ap, ◌∙◌, subst}
use Prim.Native.Nat.{ℕ, ◌/◌}
use mathlib.Core.List.{List, [], ◌++◌}
use lib.ListN.{length}
use Rattle.sha2_common.specs.State as state
use Rattle.sha2_common.proofs.Holds as sha2
use Rattle.sha256_block.specs.Fips.{H0, padded, sha256_words}
use Rattle.sha256_blocks.specs.Blocks.{sha256_function}
use Rattle.sha256_blocks.proofs.Blocks.{sixteen, hash_value-from}
use Rattle.sha256.specs.State.{running, fresh, fed, digest_of, Holds}
use Rattle.sha256.specs.declared.Hash.{Hash}

pub holds-fresh : Holds fresh []
unfolding fresh
holds-fresh = sha2.holds-fresh sha256_function sixteen H0

pub holds-new : {s : Hash} → s ≡ fresh → Holds s []
holds-new e = subst (λ (h : Hash). Holds h []) (sym e) holds-fresh

-- words fed
pub holds-fed : {s r : Hash} {m : List ℕ} (xs : List ℕ) → Holds s m → r ≡ fed s xs → Holds r (m ++ xs)
unfolding fed
holds-fed xs g e = sha2.holds-fed sha256_function sixteen H0 xs g (ap running e)

-- the digest
pub digest-held : {s : Hash} {m : List ℕ} → Holds s m → digest_of s ≡ sha256_words m
unfolding digest_of sha256_words
digest-held {m = m} g = sha2.ended_held sha256_function sixteen H0 g ∙ sym (hash_value-from (padded m) (length (padded m) / 16))

pub fresh-count : {s : Hash} → s ≡ fresh → s.running.count ≡ 0
unfolding fresh state.fresh
fresh-count e = ap (λ (h : Hash). h.running.count) e

-- the calls of `digest`
pub digest-whole : (m : List ℕ) {s t : Hash} {d : List ℕ} → s ≡ fresh → t ≡ fed s m → d ≡ digest_of t → d ≡ sha256_words m
digest-whole m e f g = g ∙ digest-held (holds-fed m (holds-new e) f)
