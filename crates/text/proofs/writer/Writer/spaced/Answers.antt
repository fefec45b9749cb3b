-- `Writer::spaced` meets its contract. Assumes nothing.
use Rattle.text.proofs.Digits.{length-spaced, put-spaced}
use native.Mathlib.Omega.{arith}
use Rattle.text.proofs.writer.Writer.spaced.Goals as goal

pub byte-requires : goal.byte-requires
byte-requires c = omega (arith, length-spaced c.args.n)

pub decimal-requires : goal.decimal-requires
decimal-requires c = omega (arith, length-spaced c.args.n)

pub returns : goal.returns
returns c = put-spaced c.args.n c.byte.ensures c.decimal.ensures
