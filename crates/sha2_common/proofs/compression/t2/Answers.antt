-- `compression::t2` meets its contract.
use Rattle.std.proofs.Common.{rules}
use Rattle.sha2_common.specs.Equations.{t2}
use Rattle.sha2_common.proofs.compression.t2.Goals as goal

pub returns : goal.returns
unfolding t2
returns g c = search rules
