-- Laws of the hash value over blocks.
use mathlib.Core.Path.{◌≡◌, refl, sym, ap, ap₂, ◌∙◌}
use Prim.Native.Nat.{ℕ, zero, suc, ◌+◌, ◌-◌, ◌*◌, ◌/◌, ◌%◌, ◌≤◌, ◌<◌}
use mathlib.Core.List.{List, ◌++◌}
use native.Mathlib.Nat.{zero-mul, suc-mul, add-mul, add-zero, add-suc, le_of_eq}
use native.Mathlib.Omega.{arith}
use lib.ListN.{length, take, drop, length-append, length-drop}
use lib.Seq.{take_all, length-take-le, take-append-le, drop-append-le, drop_at, drop-drop}
use Rattle.sha2_common.specs.Blocks.{HashOn, hash_from, hash_over}
use Rattle.sha2_common.proofs.Places.{Sized, no_block, blocks-all, blocks-add, size-whole, size-one}

-- ---- parts of a list

pub length_part : (xs : List ℕ) (i e : ℕ) → e ≤ length xs → length (take (e - i) (drop i xs)) ≡ e - i
length_part xs i e p = length-take-le (e - i) (drop i xs) (rw length-drop (omega arith))

-- ---- hash_from

module _ {W : Type 0} (f : HashOn W) where
  -- n blocks, and m behind them
  pub hash_from-on : (H : List W) (ws : List ℕ) (n m : ℕ) → hash_from f H ws (n + m) ≡ hash_from f (hash_from f H ws n) (drop (n * f.size) ws) m
  unfolding hash_from
  hash_from-on H ws n zero = ap (hash_from f H ws) (add-zero n)
  hash_from-on H ws n (suc m) =
      ap (hash_from f H ws) (add-suc n m)
      ∙ ap₂ f.compress (hash_from-on H ws n m)
      (ap (take f.size) (ap (λ (k : ℕ). drop k ws) (add-mul n m f.size) ∙ sym (drop-drop (m * f.size) (n * f.size) ws)))

  -- the hash value after n blocks goes by the first n blocks alone
  pub hash_from-front : (H : List W) (m x : List ℕ) (n : ℕ) → n * f.size ≤ length m → hash_from f H (m ++ x) n ≡ hash_from f H m n
  unfolding hash_from
  hash_from-front H m x zero p = refl
  hash_from-front H m x (suc n) p =
      let q : n * f.size + f.size ≤ length m = rw suc-mul at p in
      ap₂ f.compress (hash_from-front H m x n (omega arith))
      (ap (take f.size) (drop-append-le (n * f.size) m x (omega arith))
      ∙ take-append-le f.size (drop (n * f.size) m) x (rw length-drop (omega arith)))

-- ---- hash_over

module _ {W : Type 0} (f : HashOn W) (z : Sized f) where
  -- whole blocks, and words behind them
  pub hash_over-append : (H : List W) (m x : List ℕ) → length m % f.size ≡ 0 → hash_over f H (m ++ x) ≡ hash_over f (hash_over f H m) x
  hash_over-append H m x p =
      let n = length m / f.size in
      let e : length m ≡ n * f.size = blocks-all f.size z (length m) p in
      ap (hash_from f H (m ++ x)) (ap (λ (l : ℕ). l / f.size) (length-append m x) ∙ blocks-add f.size z (length m) (length x) p)
      ∙ hash_from-on f H (m ++ x) n (length x / f.size)
      ∙ ap₂ (λ (G : List W) (l : List ℕ). hash_from f G l (length x / f.size))
      (hash_from-front f H m x n (le_of_eq (sym e))) (drop_at m x (n * f.size) e)

  -- less than a block
  pub hash_over-few : (H : List W) (ws : List ℕ) → length ws < f.size → hash_over f H ws ≡ H
  unfolding hash_from
  hash_over-few H ws p = ap (hash_from f H ws) (no_block f.size z (length ws) p)

  hash_over-block : (H : List W) (m x : List ℕ) → length m ≡ f.size → hash_over f H (m ++ x) ≡ hash_over f (f.compress H m) x
  unfolding hash_from
  hash_over-block H m x p =
      hash_over-append H m x (ap (λ (n : ℕ). n % f.size) p ∙ size-whole f.size z)
      ∙ ap (λ (G : List W). hash_over f G x)
      (ap (hash_from f H m) (ap (λ (n : ℕ). n / f.size) p ∙ size-one f.size z)
      ∙ ap (f.compress H) (ap (λ (n : ℕ). take f.size (drop n m)) (zero-mul f.size) ∙ take_all f.size m (le_of_eq p)))

  -- a block of ws is hashed, and x is left
  pub hash_over-next : (H : List W) (m x : List ℕ) {ws : List ℕ} {r : List W} → ws ≡ m ++ x → length m ≡ f.size → r ≡ f.compress H m
      → hash_over f r x ≡ hash_over f H ws
  hash_over-next H m x e p g = ap (λ (G : List W). hash_over f G x) g ∙ sym (ap (hash_over f H) e ∙ hash_over-block H m x p)

-- ---- two hashes whose blocks change the hash value in the same way

module _ {W : Type 0} (f g : HashOn W) (n : f.size ≡ g.size) (same : (H : List W) (m : List ℕ) → f.compress H m ≡ g.compress H m) where
  hash_from-same : (H : List W) (ws : List ℕ) (k : ℕ) → hash_from f H ws k ≡ hash_from g H ws k
  unfolding hash_from
  hash_from-same H ws zero = refl
  hash_from-same H ws (suc k) =
      same (hash_from f H ws k) (take f.size (drop (k * f.size) ws))
      ∙ ap₂ (λ (G : List W) (s : ℕ). g.compress G (take s (drop (k * s) ws))) (hash_from-same H ws k) n

  pub hash_over-same : (H : List W) (ws : List ℕ) {r : List W} → r ≡ hash_over f H ws → r ≡ hash_over g H ws
  hash_over-same H ws e = e ∙ hash_from-same H ws (length ws / f.size) ∙ ap (λ (s : ℕ). hash_from g H ws (length ws / s)) n
