-- `start384` meets its contract.
use Rattle.std.proofs.Common.{refl}
use Rattle.sha512_block.specs.Fips.{H0-384}
use Rattle.sha512_block.proofs.start384.Goals as goal

pub returns : goal.returns
unfolding H0-384
returns c = refl
