-- Request (iii), for any hash: of whole blocks no word is stored.
use mathlib.Core.Path.{◌≡◌, sym, ap, ap₂, ◌∙◌}
use Prim.Native.Nat.{ℕ, ◌+◌, ◌*◌, ◌/◌, ◌%◌}
use mathlib.Core.List.{List, ◌++◌, append_assoc}
use native.Mathlib.Nat.{add_assoc}
use lib.ListN.{length, take, drop, length-append}
use lib.Seq.{take-append-le, drop-append-add}
use Rattle.sha2_common.specs.Blocks.{HashOn}
use Rattle.sha2_common.specs.State.{stored, missing, whole_end, block_after}
use Rattle.sha2_common.proofs.Places.{Sized, whole-add, left_behind}

module _ {W : Type 0} (f : HashOn W) (z : Sized f) where
  -- behind words xs that fill the block up, the words left over are those of the rest of the piece
  left_over : (k : ℕ) (xs zs : List ℕ) → (k + length xs) % f.size ≡ 0
      → drop (whole_end f.size k (length (xs ++ zs))) (xs ++ zs) ≡ drop (length zs / f.size * f.size) zs
  left_over k xs zs p =
      ap (λ (j : ℕ). drop j (xs ++ zs))
      (ap (whole_end f.size k) (length-append xs zs) ∙ (left_behind f.size z k (length xs) (length zs) p).1)
      ∙ drop-append-add xs zs (length zs / f.size * f.size)

  -- whole blocks ys that are fed where the block is empty, in one piece with words before and behind them: no word of theirs is left in it
  pub whole-unstored : (b : List ℕ) (k : ℕ) (xs ys zs : List ℕ) → (k + length xs) % f.size ≡ 0 → length ys % f.size ≡ 0
      → block_after f b k (xs ++ ys ++ zs) ≡ block_after f b k (xs ++ zs)
  unfolding block_after
  whole-unstored b k xs ys zs p q =
      let ends = (left_behind f.size z k (length xs) 0 p).0 in
      let n = ap (λ (j : ℕ). k + j) (length-append xs ys) ∙ sym (add_assoc k (length xs) (length ys)) in
      let behind = ap (λ (j : ℕ). j % f.size) n ∙ whole-add f.size z (k + length xs) (length ys) p q in
      ap₂ (λ (first last : List ℕ). stored (stored b (k % f.size) first) 0 last)
      (ap (take (missing f.size k)) (append_assoc xs ys zs) ∙ take-append-le (missing f.size k) xs (ys ++ zs) ends
      ∙ sym (take-append-le (missing f.size k) xs zs ends))
      (left_over k (xs ++ ys) zs behind ∙ sym (left_over k xs zs p))
