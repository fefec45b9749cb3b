-- `text::line::accepted_line` meets its contract. Assumes nothing.
use Prim.Native.Nat.{ℕ, ◌^◌, ◌≤◌, ◌<◌}
use mathlib.Core.List.{[], ◌∷◌}
use lib.ListN.{length}
use Rattle.model.specs.Program.{spaced}
use Rattle.text.proofs.Digits.{length-word, length-pair}
use Rattle.text.proofs.Lines.{put-accepted}
use native.Mathlib.Omega.{arith}
use Rattle.text.proofs.line.accepted_line.Goals as goal

-- how long the numbers are
lengths : (items mains ballots weight : ℕ) → items < 2 ^ 32 → mains < 2 ^ 32 → ballots < 2 ^ 32 → weight < 2 ^ 64 →
    (length (spaced (items ∷ [])) ≤ 11)
    × (length (spaced (mains ∷ [])) ≤ 11)
    × (length (spaced (ballots ∷ [])) ≤ 11)
    × (length (spaced (weight ∷ [])) ≤ 21)
lengths items mains ballots weight i m b w = (length-word items i, length-word mains m, length-word ballots b, length-pair weight w)

pub spaced-requires : goal.spaced-requires
spaced-requires c = omega (arith, lengths c.args.items c.args.mains c.args.ballots c.args.weight (omega arith) (omega arith) (omega arith) (omega arith))

pub spaced-requires-2 : goal.spaced-requires-2
spaced-requires-2 c = omega (arith, lengths c.args.items c.args.mains c.args.ballots c.args.weight (omega arith) (omega arith) (omega arith) (omega arith))

pub spaced-requires-3 : goal.spaced-requires-3
spaced-requires-3 c = omega (arith, lengths c.args.items c.args.mains c.args.ballots c.args.weight (omega arith) (omega arith) (omega arith) (omega arith))

pub spaced-requires-4 : goal.spaced-requires-4
spaced-requires-4 c = omega (arith, lengths c.args.items c.args.mains c.args.ballots c.args.weight (omega arith) (omega arith) (omega arith) (omega arith))

pub byte-requires : goal.byte-requires
byte-requires c = omega (arith, lengths c.args.items c.args.mains c.args.ballots c.args.weight (omega arith) (omega arith) (omega arith) (omega arith))

pub returns : goal.returns
returns c =
    let x = c.args in
    put-accepted x.items x.mains x.ballots x.weight
    c.bytes.ensures c.spaced.ensures c.spaced-2.ensures c.spaced-3.ensures c.spaced-4.ensures c.byte.ensures
