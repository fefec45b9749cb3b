-- The paper's samples: one table, proved by one statement, over the definitions that the contracts cite. Paper: "Proved samples".
-- Assumes nothing.
use Prim.Native.Nat.{ℕ, ◌/◌}
use mathlib.Core.Path.{◌≡◌, refl}
use mathlib.Core.List.{List, [], ◌∷◌, ◌++◌, map, map-append}
use lib.ListN.{length, replicate}
use Rattle.sha256_block.specs.Fips.{zero_bits, length_field, padding, padded}
use Rattle.model.specs.Format.{Hashes}
use Rattle.model.specs.Item.{hashed}
use Rattle.model.proofs.SampleTable.{item, Sample, ◌gives◌, samples, samples-hold}

-- the blocks that the standard's padding makes of the hashed words of an item with n content words
unfoldable pub blocks : ℕ → ℕ
blocks n = length (padded (hashed (item 0 (replicate n 0)))) / 16

-- "n = 10 hashes two blocks, n = 11 three"
unfoldable pub block_samples : List Sample
block_samples = (map blocks (10 ∷ 11 ∷ []) gives (2 ∷ 3 ∷ [])) ∷ []

-- whatever the hashes, and so with those of the standard
unfoldable pub table : Hashes → List Sample
table s = samples s ++ block_samples

blocks-hold : map (λ s. s.got) block_samples ≡ map (λ s. s.want) block_samples
unfolding block_samples blocks item hashed padding zero_bits length_field
blocks-hold = refl

pub table-holds : (s : Hashes) → map (λ r. r.got) (table s) ≡ map (λ r. r.want) (table s)
unfolding table
table-holds s = rw (map-append, map-append, samples-hold s, blocks-hold)
