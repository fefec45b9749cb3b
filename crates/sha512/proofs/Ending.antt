-- The last blocks, as `last_blocks` puts them together, are the words left over and the padding (FIPS 180-4, 5.1.2).
use mathlib.Core.Path.{◌≡◌, sym, ap, ap₂, ◌∙◌}
use Prim.Native.Nat.{ℕ, suc, ◌+◌, ◌-◌, ◌*◌, ◌/◌, ◌%◌, ◌^◌, ◌≤◌, ◌<◌}
use mathlib.Core.List.{List, [], ◌∷◌, ◌++◌, append_assoc}
use native.Mathlib.Omega.{arith}
use lib.ListN.{length, take, set, replicate, length-set, replicate-append-replicate}
use lib.Seq.{length-take-le}
use Rattle.sha2_common.specs.State.{stored}
use Rattle.sha2_common.proofs.Ending.{length-begun, last-words}
use Rattle.sha512_block.specs.Fips.{zero_bits, length_field, to_halves, padding}
use Rattle.sha512_block.proofs.Padding.{zero_bits-words, length_field-words}

-- where the last blocks of k words end
abbrev pub end_of : ℕ → ℕ
end_of k = (k % 32 + 36) / 32 * 32

-- the length in bits of k words, without its first word, which is zero
abbrev bits : ℕ → List ℕ
bits k = k / 2 ^ 59 ∷ k / 2 ^ 27 % 2 ^ 32 ∷ k % 2 ^ 27 * 32 ∷ []

zeros-bits : (z k : ℕ) → k < 2 ^ 64 → replicate (z + 1) 0 ++ bits k ≡ replicate z 0 ++ to_halves (length_field (k * 32))
zeros-bits z k p =
    ap (λ (l : List ℕ). l ++ bits k) (sym (replicate-append-replicate z 1 0)) ∙ append_assoc (replicate z 0) (0 ∷ []) (bits k)
    ∙ ap (λ (l : List ℕ). replicate z 0 ++ l) (sym (length_field-words k p))

-- P are left over
module _ (k : ℕ) (P : List ℕ) (few : length P ≡ k % 32) (l : List ℕ) (put : l ≡ stored (replicate 64 0) 0 P) where
  pub end-within : (h i j m w x y z : ℕ) → end_of k ≤ length (set (set (set (set l h w) i x) j y) m z)
  end-within h i j m w x y z = let n = length-begun 64 P (k % 32) few l put (omega arith) in simp length-set (omega (arith, n))

  pub length_last : (h i j m w x y z : ℕ) → end_of k ≡ length (take (end_of k) (set (set (set (set l h w) i x) j y) m z))
  length_last h i j m w x y z =
      sym (length-take-le (end_of k) (set (set (set (set l h w) i x) j y) m z) (end-within h i j m w x y z))

  pub last-blocks : k < 2 ^ 64
      → take (end_of k) (set (set (set (set l (k % 32) 0x8000_0000) (end_of k - 3) (k / 2 ^ 59)) (end_of k - 2) (k / 2 ^ 27 % 2 ^ 32))
      (end_of k - 1) (k % 2 ^ 27 * 32)) ≡ P ++ padding k
  unfolding padding
  last-blocks p =
      let b = set l (k % 32) 0x8000_0000 in
      let i : end_of k - 2 ≡ suc (end_of k - 3) = omega arith in
      let j : end_of k - 1 ≡ suc (suc (end_of k - 3)) = omega arith in
      let zeros : end_of k - 3 - suc (k % 32) ≡ zero_bits (k * 32) / 32 + 1 = omega (arith, zero_bits-words k) in
      ap₂ (λ (i j : ℕ). take (end_of k) (set (set (set b (end_of k - 3) (k / 2 ^ 59)) i (k / 2 ^ 27 % 2 ^ 32)) j (k % 2 ^ 27 * 32))) i j
      ∙ last-words 64 P (k % 32) few l put (bits k) (end_of k - 3) (end_of k) (omega arith) (omega arith) (omega arith)
      ∙ ap (λ (z : ℕ). P ++ (0x8000_0000 ∷ replicate z 0 ++ bits k)) zeros
      ∙ ap (λ (m : List ℕ). P ++ (0x8000_0000 ∷ m)) (zeros-bits (zero_bits (k * 32) / 32) k p)
