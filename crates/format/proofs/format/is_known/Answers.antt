-- `format::is_known` meets its contract. Assumes nothing.
use Rattle.format.proofs.Traits.{known-below}
use Rattle.format.proofs.format.is_known.Goals as goal

pub returns : goal.returns
returns c = known-below _
