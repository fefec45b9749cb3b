-- `ch` meets its contract.
use Rattle.sha2_common.proofs.Rotations.{ch-form}
use Rattle.sha512_block.proofs.functions.Sha512Functions.ch.Goals as goal

pub returns : goal.returns
returns c = ch-form 64 c.args.x c.args.y c.args.z c.ranges.x.fits c.ranges.y.fits c.ranges.z.fits
