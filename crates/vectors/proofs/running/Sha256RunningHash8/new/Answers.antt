use Rattle.sha256.proofs.Holds.{holds-new}
use Rattle.vectors.proofs.running.Sha256RunningHash8.new.Goals as goal

pub returns : goal.returns
returns c = holds-new c.new.ensures
