-- `constants` meets its contract.
use Rattle.std.proofs.Common.{refl}
use Rattle.sha512_block.specs.Fips.{K}
use Rattle.sha512_block.proofs.constants.Goals as goal

pub returns : goal.returns
unfolding K
returns c = refl
