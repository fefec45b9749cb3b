-- `block_word` meets its contract.
use Rattle.std.proofs.Common.{sym, ap₂, ◌∙◌, arith}
use Rattle.sha512_block.specs.Fips.{of_halves}
use Rattle.sha512_block.proofs.Halves.{get_or-from}
use Rattle.sha512_block.proofs.functions.Sha512Functions.block_word.Goals as goal

pub returns : goal.returns
returns c = ap₂ of_halves c.from.ensures c.from-2.ensures ∙ sym (get_or-from c.args.t c.args.m.now (omega arith))
