-- The words of notes by their places. Assumes nothing.
use Prim.Native.Nat.{ℕ, suc, ◌+◌, ◌*◌, ◌/◌, ◌≤◌, ◌<◌}
use native.Mathlib.Nat.{mul-suc, mul_comm, mul-le-mul, mul-le-mul_left}
use native.Mathlib.Omega.{arith}
use mathlib.Core.Path.{◌≡◌, refl}
use mathlib.Core.List.{List}
use lib.ListN.{length}
use Rattle.model.specs.Format.{time_size}
use Rattle.watch.specs.Notes.{note_limit, note_size, note_count}
use Rattle.format.specs.Format.{format_of}
use Rattle.format.proofs.Traits.{sizes}
use Rattle.notes.specs.Holding.{Whole}

-- how many there are, by the size that the code finds
pub counted : (board notes : List ℕ) {n : ℕ} → n ≡ note_size (format_of board) → length notes / n ≡ note_count (format_of board) notes
counted board notes e = rw e

-- note k, of s words, whose address has a words, at its place among n words
pub record Placed (s a k n : ℕ) : Type 0 where
  pub place : s * k ≤ 18 * note_limit
  pub time : s * k + time_size ≤ n
  pub address : s * k + time_size + a ≤ n

placed_at : (s a k m n : ℕ) → s ≡ time_size + a → s ≤ 18 → n ≡ m * s → m ≤ note_limit → k < m → Placed s a k n
placed_at s a k m n sum size all few less =
    let up : s * suc k ≤ s * m = mul-le-mul_left s less in
    let under : k ≤ note_limit = omega arith in
    let suc-place = mul-suc s k in
    let most : s * k ≤ 18 * note_limit = mul-le-mul size under in
    record { place = most; time = omega (arith, mul_comm m s); address = omega (arith, mul_comm m s) }

-- note k of a board's width, by the size that the code finds
pub placed : {board notes : List ℕ} → Whole board notes → {s k : ℕ} → s ≡ note_size (format_of board)
    → k < note_count (format_of board) notes → Placed s (format_of board).address k (length notes)
placed {board} w e l =
    let b = sizes board in
    rw e (placed_at _ (format_of board).address _ _ _ refl (omega arith) w.whole w.few l)
