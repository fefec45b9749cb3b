-- `big_sigma1` meets its contract.
use Rattle.std.proofs.Common.{arith}
use Rattle.sha2_common.proofs.Rotations.{three-rotations}
use Rattle.sha256_block.specs.Fips.{big_sigma1}
use Rattle.sha256_block.proofs.functions.Sha256Functions.big_sigma1.Goals as goal

pub returns : goal.returns
unfolding big_sigma1
returns c = three-rotations 32 6 5 14 c.args.x (omega arith) c.ranges.x.fits c.rotr.ensures c.rotr-2.ensures c.rotr-3.ensures
