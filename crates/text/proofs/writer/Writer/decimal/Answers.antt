-- `Writer::decimal` meets its contract: the library's digits are the model's. Assumes nothing.
use mathlib.Core.Path.{ap, ◌∙◌}
use native.Mathlib.Omega.{arith}
use lib.ListN.{length}
use Rattle.text.proofs.Digits.{decimal-is}
use Rattle.text.proofs.writer.Writer.decimal.Goals as goal

pub bytes-requires : goal.bytes-requires
bytes-requires c =
    let text = c.as_bytes.ensures.value ∙ c.format.ensures.text ∙ decimal-is c.args.n c.ranges.n.fits in
    omega (arith, c.requires, ap length text)

pub returns : goal.returns
returns c =
    let text = c.as_bytes.ensures.value ∙ c.format.ensures.text ∙ decimal-is c.args.n c.ranges.n.fits in
    rw text at c.bytes.ensures
