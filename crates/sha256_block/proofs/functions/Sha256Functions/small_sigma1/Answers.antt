-- `small_sigma1` meets its contract.
use Rattle.std.proofs.Common.{arith}
use Rattle.sha2_common.proofs.Rotations.{two-rotations-shift}
use Rattle.sha256_block.specs.Fips.{small_sigma1}
use Rattle.sha256_block.proofs.functions.Sha256Functions.small_sigma1.Goals as goal

pub returns : goal.returns
unfolding small_sigma1
returns c = two-rotations-shift 32 17 2 10 c.args.x (omega arith) c.ranges.x.fits c.rotr.ensures c.rotr-2.ensures
