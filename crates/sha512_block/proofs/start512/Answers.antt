-- `start512` meets its contract.
use Rattle.std.proofs.Common.{refl}
use Rattle.sha512_block.specs.Fips.{H0-512}
use Rattle.sha512_block.proofs.start512.Goals as goal

pub returns : goal.returns
unfolding H0-512
returns c = refl
