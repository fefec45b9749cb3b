-- The last blocks, put together in a row of zeros: the words left over, the bit 1, zeros, and the length (FIPS 180-4, 5.1).
use mathlib.Core.Path.{◌≡◌, sym, ap, ap₂, ◌∙◌}
use Prim.Native.Nat.{ℕ, suc, ◌+◌, ◌-◌, ◌≤◌, ◌<◌}
use mathlib.Core.List.{List, ◌∷◌, ◌++◌, append_assoc}
use native.Mathlib.Nat.{zero-add}
use native.Mathlib.Omega.{arith}
use lib.ListN.{length, take, drop, set, replicate, length-append, length-replicate, replicate-append-replicate}
use lib.Seq.{length-take-le, take_at, drop_at, set_at, take-append-add, take-length, sets, sets-eq}
use Rattle.sha2_common.specs.State.{stored}
use Rattle.sha2_common.proofs.Feed.{length-stored}

-- ---- zeros

abbrev zeros : ℕ → List ℕ
zeros n = replicate n 0

split : (k n : ℕ) → k ≤ n → zeros n ≡ zeros k ++ zeros (n - k)
split k n p = let e : n ≡ k + (n - k) = omega arith in ap zeros e ∙ sym (replicate-append-replicate k (n - k) 0)

take-zeros : (k n : ℕ) → k ≤ n → take k (zeros n) ≡ zeros k
take-zeros k n p = ap (take k) (split k n p) ∙ take_at (zeros k) (zeros (n - k)) k (length-replicate k 0)

drop-zeros : (k n : ℕ) → k ≤ n → drop k (zeros n) ≡ zeros (n - k)
drop-zeros k n p = ap (drop k) (split k n p) ∙ drop_at (zeros k) (zeros (n - k)) k (length-replicate k 0)

-- ---- l is a row of zeros with the n words P stored at its front

module _ (total : ℕ) (P : List ℕ) (n : ℕ) (few : length P ≡ n) (l : List ℕ) (put : l ≡ stored (zeros total) 0 P) where
  pub length-begun : n ≤ total → length l ≡ total
  length-begun p =
      let z = length-replicate {A = ℕ} total 0 in
      ap length put ∙ length-stored (zeros total) 0 P (omega (arith, few, z)) ∙ z

  -- the bit 1 behind P, and zeros
  begun : n < total → set l n 0x8000_0000 ≡ P ++ 0x8000_0000 ∷ zeros (total - suc n)
  begun p =
      let e : total - n ≡ suc (total - suc n) = omega arith in
      ap (λ (m : List ℕ). set m n 0x8000_0000)
      (put
      ∙ ap₂ (λ (x y : List ℕ). x ++ y) (take-length P)
      (ap (λ (j : ℕ). drop j (zeros total)) (zero-add (length P) ∙ few) ∙ drop-zeros n total (omega arith)
      ∙ ap zeros e))
      ∙ set_at P 0 (zeros (total - suc n)) 0x8000_0000 n few

  -- and the words ws of the length, from the place at on up to the end of a block
  pub last-words : (ws : List ℕ) (at end : ℕ) → n < at → at + length ws ≡ end → end ≤ total
      → take end (sets (set l n 0x8000_0000) at ws) ≡ P ++ (0x8000_0000 ∷ zeros (at - suc n) ++ ws)
  last-words ws at end p q r =
      let m = P ++ 0x8000_0000 ∷ zeros (total - suc n) in
      let size : length m ≡ total = simp (length-append, length-replicate) (omega (arith, few)) in
      let t = length-take-le at m (omega (arith, size)) in
      let front : length (take at m ++ ws) ≡ end = simp length-append (omega (arith, t)) in
      let e : at ≡ length P + suc (at - suc n) = omega (arith, few) in
      ap (λ (x : List ℕ). take end (sets x at ws)) (begun (omega arith))
      ∙ ap (take end) (sets-eq ws m at (omega (arith, size)))
      ∙ take_at (take at m ++ ws) (drop (at + length ws) m) end front
      ∙ ap (λ (x : List ℕ). x ++ ws)
      (ap (λ (j : ℕ). take j m) e ∙ take-append-add P (0x8000_0000 ∷ zeros (total - suc n)) (suc (at - suc n))
      ∙ ap (λ (x : List ℕ). P ++ 0x8000_0000 ∷ x) (take-zeros (at - suc n) (total - suc n) (omega arith)))
      ∙ append_assoc P (0x8000_0000 ∷ zeros (at - suc n)) ws
