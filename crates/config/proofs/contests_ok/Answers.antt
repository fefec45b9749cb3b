-- `contests_ok` meets its contract. Assumes nothing.
use mathlib.Core.Path.{refl}
use Rattle.config.proofs.Rules.{contests-is}
use Rattle.config.proofs.contests_ok.Goals as goal

pub returns-then-not-is_empty : goal.returns-then-not-is_empty
returns-then-not-is_empty c board stands =
    rw c.if-not-is_empty.true at (contests-is stands c.args.contests.now c.requires _ _ c.is_empty.ensures c.is_within.ensures)

pub returns-else-not-is_empty : goal.returns-else-not-is_empty
returns-else-not-is_empty c board stands =
    rw c.if-not-is_empty.false (rw c.if-not-is_empty.false at (contests-is stands c.args.contests.now c.requires _ _ c.is_empty.ensures refl))
