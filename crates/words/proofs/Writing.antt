-- Laws of words that are written into a buffer. Assumes nothing.
use mathlib.Core.Path.{◌≡◌, sym, ap, ◌∙◌}
use mathlib.Core.List.{List, [], ◌∷◌, ◌++◌}
use Prim.Native.Nat.{ℕ, zero, suc, ◌+◌, ◌-◌, ◌≤◌}
use native.Mathlib.Nat.{zero-add, sub-zero, zero-sub, suc-sub-suc}
use native.Mathlib.Omega.{arith}
use lib.ListN.{length, drop, set, replicate, length-replicate}
use lib.Seq.{sets, sets-eq, take-length}
use borrow.Rule.Slice.PartMut.{put_mid}
use Rattle.std.proofs.lemmas.Slice.{put_mid-paste}
use Rattle.model.specs.Report.{filled}

-- two runs, one behind the other
pub sets-append : (l a b : List ℕ) (at k : ℕ) → k ≡ at + length a → sets (sets l at a) k b ≡ sets l at (a ++ b)
sets-append l [] b at k e = let same : k ≡ at = omega arith in rw same
sets-append l (x ∷ a) b at k e = sets-append (set l at x) a b (suc at) k (omega arith)

-- a write to the part from `at` to e
pub part-sets : (l new ws : List ℕ) (at e : ℕ) → new ≡ ws → at + length ws ≡ e → e ≤ length l → put_mid at (e - at) l new ≡ sets l at ws
part-sets l new ws at e same end inside =
    put_mid-paste at (e - at) l new ws (length ws) same (omega arith) (omega arith) ∙ rw take-length (sym (sets-eq ws l at (omega arith)))

-- over the first words
pub sets_first : (l ws : List ℕ) → length ws ≤ length l → sets l 0 ws ≡ ws ++ drop (length ws) l
sets_first l ws h = sets-eq ws l 0 (omega arith) ∙ rw (zero-add)

-- over zeros
drop-zeros : (k n : ℕ) → drop {A = ℕ} k (replicate n 0) ≡ replicate (n - k) 0
drop-zeros zero n = rw sub-zero
drop-zeros (suc k) zero = rw zero-sub
drop-zeros (suc k) (suc n) = rw suc-sub-suc (drop-zeros k n)

pub sets-zeros : (n : ℕ) (ws : List ℕ) → length ws ≤ n → sets (replicate n 0) 0 ws ≡ filled n ws
unfolding filled
sets-zeros n ws h = sets_first (replicate n 0) ws (rw length-replicate h) ∙ ap (ws ++◌) (drop-zeros (length ws) n)
