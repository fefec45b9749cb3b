-- The last blocks, as `Hash::finish` puts them together, are what was pending and the padding (FIPS 180-4, 5.1.1).
use mathlib.Core.Path.{◌≡◌, sym, ap, ap₂, ◌∙◌}
use Prim.Native.Nat.{ℕ, suc, ◌+◌, ◌-◌, ◌*◌, ◌/◌, ◌%◌, ◌^◌, ◌≤◌, ◌<◌}
use mathlib.Core.List.{List, [], ◌∷◌, ◌++◌}
use native.Mathlib.Omega.{arith}
use lib.ListN.{length, take, set, replicate, length-set}
use lib.Seq.{length-take-le}
use Rattle.sha2_common.specs.State.{stored}
use Rattle.sha2_common.proofs.Ending.{length-begun, last-words}
use Rattle.sha256_block.specs.Fips.{padding}
use Rattle.sha256_block.proofs.Padding.{zero_bits-words, length_field-words}

-- where the last blocks of k words end
abbrev pub end_of : ℕ → ℕ
end_of k = (k % 16 + 18) / 16 * 16

-- P are pending
module _ (k : ℕ) (P : List ℕ) (few : length P ≡ k % 16) (l : List ℕ) (put : l ≡ stored (replicate 32 0) 0 P) where
  pub end-within : (i j m x y z : ℕ) → end_of k ≤ length (set (set (set l i x) j y) m z)
  end-within i j m x y z = let n = length-begun 32 P (k % 16) few l put (omega arith) in simp length-set (omega (arith, n))

  pub length_last : (i j m x y z : ℕ) → end_of k ≡ length (take (end_of k) (set (set (set l i x) j y) m z))
  length_last i j m x y z = sym (length-take-le (end_of k) (set (set (set l i x) j y) m z) (end-within i j m x y z))

  pub last-blocks : k * 32 < 2 ^ 64
      → take (end_of k) (set (set (set l (k % 16) 0x8000_0000) (end_of k - 2) (k * 32 / 2 ^ 32)) (end_of k - 1) (k * 32 % 2 ^ 32))
      ≡ P ++ padding k
  unfolding padding
  last-blocks p =
      let high = k * 32 / 2 ^ 32 in
      let low = k * 32 % 2 ^ 32 in
      let n : end_of k - 1 ≡ suc (end_of k - 2) = omega arith in
      let zeros : end_of k - 2 - suc (k % 16) ≡ (29 - k % 16) % 16 = omega arith in
      ap (λ (j : ℕ). take (end_of k) (set (set (set l (k % 16) 0x8000_0000) (end_of k - 2) high) j low)) n
      ∙ last-words 32 P (k % 16) few l put (high ∷ low ∷ []) (end_of k - 2) (end_of k) (omega arith) (omega arith) (omega arith)
      ∙ ap₂ (λ (j : ℕ) (m : List ℕ). P ++ (0x8000_0000 ∷ replicate j 0 ++ m)) (zeros ∙ sym (zero_bits-words k))
      (sym (length_field-words k (omega arith)))
