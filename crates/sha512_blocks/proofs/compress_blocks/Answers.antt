-- `compress_blocks` meets its contract.
use Rattle.std.proofs.Common.{refl, arith}
use Rattle.sha2_common.specs.Blocks.{by_rounds}
use Rattle.sha2_common.proofs.Blocks.{hash_over-same}
use Rattle.sha512_block.specs.Fips.{from_halves}
use Rattle.sha512_block.specs.Equations.{sha512_functions}
use Rattle.sha512_block.proofs.Rounds.{compress-same}
use Rattle.sha512_blocks.specs.Blocks.{sha512_function}
use Rattle.sha512_blocks.proofs.Blocks.{thirty_two}
use Rattle.sha512_blocks.proofs.compress_blocks.Goals as goal

pub compress_blocks-requires : goal.compress_blocks-requires
compress_blocks-requires c = (omega arith, (omega arith, (c.constants-k.ensures, refl, omega arith, refl, refl, thirty_two)))

pub returns : goal.returns
returns c =
    hash_over-same (by_rounds sha512_functions 80) sha512_function refl (λ H m. compress-same H (from_halves m)) c.args.h c.args.s.now c.compress_blocks.ensures
