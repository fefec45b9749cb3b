-- `Format::of` meets its contract. Assumes nothing.
use Rattle.format.proofs.format.Format.of.Goals as goal

pub returns : goal.returns
returns c = rw (← c.traits_of-traits.ensures, ← c.sets_of-sets.ensures) c.on_curve.ensures
