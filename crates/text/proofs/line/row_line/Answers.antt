-- `text::line::row_line` meets its contract. Assumes nothing.
use Prim.Native.Nat.{ℕ, ◌^◌, ◌≤◌, ◌<◌}
use mathlib.Core.List.{[], ◌∷◌}
use lib.ListN.{length}
use Rattle.model.specs.Program.{decimal, spaced}
use Rattle.model.proofs.Decimal.{length-decimal}
use Rattle.text.proofs.Digits.{length-word}
use Rattle.text.proofs.Lines.{put-row}
use native.Mathlib.Omega.{arith}
use Rattle.text.proofs.line.row_line.Goals as goal

-- how long the numbers are
lengths : (ballot voter weight : ℕ) → ballot < 2 ^ 32 → voter < 2 ^ 32 → weight < 2 ^ 32 →
    (length (decimal ballot) ≤ 10) × (length (spaced (voter ∷ [])) ≤ 11) × (length (spaced (weight ∷ [])) ≤ 11)
lengths ballot voter weight b v w = (length-decimal 9 ballot (omega arith), length-word voter v, length-word weight w)

pub spaced-requires : goal.spaced-requires
spaced-requires c = omega (arith, lengths c.args.ballot c.args.voter c.args.weight (omega arith) (omega arith) (omega arith))

pub spaced-requires-2 : goal.spaced-requires-2
spaced-requires-2 c = omega (arith, lengths c.args.ballot c.args.voter c.args.weight (omega arith) (omega arith) (omega arith))

pub decimal-requires : goal.decimal-requires
decimal-requires c = omega (arith, lengths c.args.ballot c.args.voter c.args.weight (omega arith) (omega arith) (omega arith))

pub byte-requires : goal.byte-requires
byte-requires c = omega (arith, lengths c.args.ballot c.args.voter c.args.weight (omega arith) (omega arith) (omega arith))

pub returns : goal.returns
returns c =
    let x = c.args in
    put-row x.ballot x.voter x.weight c.decimal.ensures c.spaced.ensures c.spaced-2.ensures c.byte.ensures
