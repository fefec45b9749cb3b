-- The words of a test message, by their places.
use Rattle.std.proofs.Common.{◌≡◌, ℕ, zero, suc, ◌+◌, ◌*◌, ◌%◌, ◌<◌, ◌≤◌, List, refl, sym, ◌∙◌, arith, length, get_or, take}
use lib.Seq.{take-suc, take_all}
use Rattle.vectors.specs.Messages.{counting}

-- a list whose every word is the one that counts there
module _ (ws : List ℕ) (each : (i : ℕ) → i < length ws → get_or ws i 0 ≡ 0x0001_0203 + i % 64 * 0x0404_0404) where
  counted_to : (n : ℕ) → n ≤ length ws → take n ws ≡ counting n
  unfolding counting
  counted_to zero l = refl
  counted_to (suc n) l = rw (take-suc ws n 0 (omega arith), counted_to n (omega arith), each n (omega arith)) refl

  pub counted : (n : ℕ) → length ws ≡ n → ws ≡ counting n
  counted n e = sym (take_all n ws (omega arith)) ∙ counted_to n (omega arith)
