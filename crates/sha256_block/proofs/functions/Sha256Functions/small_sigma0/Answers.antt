-- `small_sigma0` meets its contract.
use Rattle.std.proofs.Common.{arith}
use Rattle.sha2_common.proofs.Rotations.{two-rotations-shift}
use Rattle.sha256_block.specs.Fips.{small_sigma0}
use Rattle.sha256_block.proofs.functions.Sha256Functions.small_sigma0.Goals as goal

pub returns : goal.returns
unfolding small_sigma0
returns c = two-rotations-shift 32 7 11 3 c.args.x (omega arith) c.ranges.x.fits c.rotr.ensures c.rotr-2.ensures
