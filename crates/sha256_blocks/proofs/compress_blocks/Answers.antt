-- `compress_blocks` meets its contract.
use Rattle.std.proofs.Common.{refl, arith}
use Rattle.sha2_common.specs.Blocks.{by_rounds}
use Rattle.sha2_common.proofs.Blocks.{hash_over-same}
use Rattle.sha256_block.specs.Fips.{K}
use Rattle.sha256_block.specs.Equations.{sha256_functions}
use Rattle.sha256_block.proofs.Rounds.{compress-same}
use Rattle.sha256_blocks.specs.Blocks.{sha256_function}
use Rattle.sha256_blocks.proofs.Blocks.{sixteen}
use Rattle.sha256_blocks.proofs.compress_blocks.Goals as goal

pub compress_blocks-requires : goal.compress_blocks-requires
unfolding K
compress_blocks-requires c = (omega arith, (omega arith, (refl, refl, omega arith, refl, refl, sixteen)))

pub returns : goal.returns
returns c =
    hash_over-same (by_rounds sha256_functions 64) sha256_function refl compress-same c.args.h c.args.s.now c.compress_blocks.ensures
