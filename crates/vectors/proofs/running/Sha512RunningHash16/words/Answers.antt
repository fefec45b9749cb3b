use Rattle.std.proofs.Common.{ap}
use Rattle.sha512.specs.State.{running, fed}
use Rattle.vectors.proofs.running.Sha512RunningHash16.words.Goals as goal

pub returns : goal.returns
unfolding fed
returns c = ap running c.words.ensures
