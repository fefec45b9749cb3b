-- `compression::round` meets its contract.
use Rattle.std.proofs.Common.{rules}
use Rattle.sha2_common.specs.Equations.{round}
use Rattle.sha2_common.proofs.compression.round.Goals as goal

pub returns : goal.returns
unfolding round
returns g c = search rules
