-- `text::line::refused_line` meets its contract. Assumes nothing.
use Prim.Native.Nat.{ℕ, ◌^◌, ◌≤◌, ◌<◌}
use mathlib.Core.List.{[], ◌∷◌}
use lib.ListN.{length}
use Rattle.model.specs.Program.{spaced}
use Rattle.text.proofs.Digits.{length-word}
use Rattle.text.proofs.Lines.{put_refused}
use native.Mathlib.Omega.{arith}
use Rattle.text.proofs.line.refused_line.Goals as goal

-- how long the numbers are
lengths : (number items : ℕ) → number < 2 ^ 32 → items < 2 ^ 32 → (length (spaced (number ∷ [])) ≤ 11) × (length (spaced (items ∷ [])) ≤ 11)
lengths number items n i = (length-word number n, length-word items i)

pub spaced-requires : goal.spaced-requires
spaced-requires c = omega (arith, lengths c.args.number c.args.items (omega arith) (omega arith))

pub bytes-requires-2 : goal.bytes-requires-2
bytes-requires-2 c = omega (arith, lengths c.args.number c.args.items (omega arith) (omega arith))

pub spaced-requires-2 : goal.spaced-requires-2
spaced-requires-2 c = omega (arith, lengths c.args.number c.args.items (omega arith) (omega arith))

pub byte-requires : goal.byte-requires
byte-requires c = omega (arith, lengths c.args.number c.args.items (omega arith) (omega arith))

pub returns : goal.returns
returns c =
    let x = c.args in
    put_refused x.number x.items c.bytes.ensures c.spaced.ensures c.bytes-2.ensures c.spaced-2.ensures c.byte.ensures
