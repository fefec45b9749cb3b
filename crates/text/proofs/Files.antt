-- Laws of the bytes that the program keeps of its files: they are enough for what it prints. Assumes nothing.
use Prim.Native.Nat.{ℕ, zero, suc, ◌*◌, ◌≤◌}
use native.Mathlib.Omega.{arith}
use mathlib.Core.Path.{◌≡◌, refl}
use mathlib.Core.List.{List, [], ◌∷◌}
use lib.ListN.{length, take}
use Rattle.model.specs.Format.{Format}
use Rattle.model.specs.Item.{item_length}
use Rattle.model.specs.Program.{from_bytes, bytes_per_word, program_limit, verdict_limit, roll_kept, least_item, program_outcome, files_outcome}
use Rattle.model.proofs.Program.{files-cut}

-- the words of the first bytes are the first words
pub from_bytes-take : (n m : ℕ) (bs : List ℕ) → m ≡ bytes_per_word * n → from_bytes (take m bs) ≡ take n (from_bytes bs)
unfolding from_bytes
from_bytes-take zero zero bs e = refl
from_bytes-take (suc n) (suc (suc (suc (suc m)))) (a ∷ b ∷ c ∷ d ∷ bs) e = rw (from_bytes-take n m bs (omega arith))
from_bytes-take (suc n) (suc (suc (suc (suc m)))) (a ∷ b ∷ c ∷ []) e = refl
from_bytes-take (suc n) (suc (suc (suc (suc m)))) (a ∷ b ∷ []) e = refl
from_bytes-take (suc n) (suc (suc (suc (suc m)))) (a ∷ []) e = refl
from_bytes-take (suc n) (suc (suc (suc (suc m)))) [] e = refl
from_bytes-take zero (suc m) bs e = absurd (omega arith)
from_bytes-take (suc n) zero bs e = absurd (omega arith)
from_bytes-take (suc n) (suc zero) bs e = absurd (omega arith)
from_bytes-take (suc n) (suc (suc zero)) bs e = absurd (omega arith)
from_bytes-take (suc n) (suc (suc (suc zero))) bs e = absurd (omega arith)

-- the outcome from the bytes that are kept and the byte counts of the whole files
pub kept-enough : (f : Format) (board verdicts roll : List ℕ) → least_item ≤ item_length f 0
    → program_outcome f (length board) (length verdicts) (length roll)
    (from_bytes (take (bytes_per_word * program_limit) board)) (from_bytes (take (bytes_per_word * verdict_limit) verdicts)) (from_bytes (take (bytes_per_word * roll_kept) roll))
    ≡ files_outcome f board verdicts roll
kept-enough f board verdicts roll least =
    rw (
      from_bytes-take program_limit (bytes_per_word * program_limit) board refl,
      from_bytes-take verdict_limit (bytes_per_word * verdict_limit) verdicts refl,
      from_bytes-take roll_kept (bytes_per_word * roll_kept) roll refl,
    )
    (files-cut f board verdicts roll least)
