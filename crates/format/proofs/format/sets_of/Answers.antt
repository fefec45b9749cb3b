-- `format::sets_of` meets its contract. Assumes nothing.
use Rattle.format.proofs.Traits.{sets-wide, sets-narrow}
use Rattle.format.proofs.format.sets_of.Goals as goal

pub returns-then-traits-eq1 : goal.returns-then-traits-eq1
returns-then-traits-eq1 c = sets-wide _ c.if-traits-eq1.true

pub returns : goal.returns
returns c = sets-narrow _ c.if-traits-eq1.false
