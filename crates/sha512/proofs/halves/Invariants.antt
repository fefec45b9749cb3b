use Rattle.std.proofs.Common.{◌≡◌, ◌*◌, length, take}
use Rattle.sha512_block.specs.Fips.{to_halves}
use Rattle.sha512.proofs.halves.Given as goal

-- the halves of the first i words are written
abbrev pub invariant-loop-i : goal.invariant-loop-i
invariant-loop-i g l = (length l.d ≡ g.row.D) × (take (l.i * 2) l.d ≡ to_halves (take l.i l.h))
