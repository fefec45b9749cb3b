use Rattle.std.proofs.Common.{ap}
use Rattle.sha256.specs.State.{running, fed}
use Rattle.vectors.proofs.running.Sha256RunningHash8.word.Goals as goal

pub returns : goal.returns
unfolding fed
returns c = ap running c.word.ensures
