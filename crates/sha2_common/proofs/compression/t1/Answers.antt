-- `compression::t1` meets its contract.
use Rattle.std.proofs.Common.{rules}
use Rattle.sha2_common.specs.Equations.{t1}
use Rattle.sha2_common.proofs.compression.t1.Goals as goal

pub returns : goal.returns
unfolding t1
returns g c = search rules
