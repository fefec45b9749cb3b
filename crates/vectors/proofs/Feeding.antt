-- Words fed to a hash that was just begun, one by one or in pieces.
use mathlib.Core.Path.{◌≡◌, subst}
use Prim.Native.Nat.{ℕ, ◌+◌, ◌-◌, ◌≤◌}
use mathlib.Core.List.{List, [], ◌∷◌}
use native.Mathlib.Omega.{arith}
use lib.ListN.{length, take, drop, replicate, replicate-append-replicate}
use lib.Seq.{take-length}
use Rattle.sha2_common.specs.Blocks.{HashFunction}
use Rattle.sha2_common.specs.State.{Running, fed, Holds}
use Rattle.sha2_common.proofs.Places.{Sized}
use Rattle.sha2_common.proofs.Blocks.{length_part}
use Rattle.sha2_common.proofs.Feed.{take_more, fed-count}
use Rattle.sha2_common.proofs.Holds.{holds-fed}
use Rattle.vectors.specs.Feeding.{Fed}

module _ (f : HashFunction) where
  -- nothing
  pub fed-none : (h : Running) (words : List ℕ) → Fed f h (take 0 words) h
  fed-none h words start g = g

  pub fed-start : (h : Running) (w : ℕ) → Fed f h (replicate 0 w) h
  fed-start h w start g = g

  -- the word w, behind i of them
  pub fed-word : (z : Sized f) {h s r : Running} (w i : ℕ) → Fed f h (replicate i w) s → r ≡ fed f s (w ∷ [])
      → Fed f h (replicate (i + 1) w) r
  fed-word z {r = r} w i p e start g =
      subst (λ (m : List ℕ). Holds f start r m) (replicate-append-replicate i 1 w) (holds-fed f z start (w ∷ []) (p start g) e)

  -- the words up to the place `to`, behind those up to `from`
  pub fed-piece : (z : Sized f) {h s r : Running} (words : List ℕ) (from to : ℕ) → from ≤ to → Fed f h (take from words) s
      → r ≡ fed f s (take (to - from) (drop from words)) → Fed f h (take to words) r
  fed-piece z {r = r} words from to l p e start g =
      subst (λ (m : List ℕ). Holds f start r m) (take_more words from to l)
      (holds-fed f z start (take (to - from) (drop from words)) (p start g) e)

  -- the words behind the place, where it is the last
  pub fed-rest : (z : Sized f) {h s r : Running} (words : List ℕ) (from : ℕ) → from ≤ length words → Fed f h (take from words) s
      → r ≡ fed f s (take (length words - from) (drop from words)) → Fed f h words r
  fed-rest z {h = h} {r = r} words from l p e =
      subst (λ (m : List ℕ). Fed f h m r) (take-length words) (fed-piece z words from (length words) l p e)

  pub count-piece : (s : Running) {r : Running} (words : List ℕ) (from to : ℕ) → from ≤ to → to ≤ length words → s.count ≡ from
      → r ≡ fed f s (take (to - from) (drop from words)) → r.count ≡ to
  count-piece s words from to l m c e =
      let n = length_part words from to m in
      let d = fed-count f s (take (to - from) (drop from words)) e in
      omega (arith, n, d)

pub length-piece : (words : List ℕ) (from to : ℕ) → from ≤ to → to ≤ length words → from + length (take (to - from) (drop from words)) ≡ to
length-piece words from to l m = let n = length_part words from to m in omega (arith, n)

-- nothing was fed to a hash just begun
pub begun-count : (f : HashFunction) (start : List ℕ) {s : Running} → Holds f start s [] → s.count ≡ 0
begun-count f start g = g.counted
