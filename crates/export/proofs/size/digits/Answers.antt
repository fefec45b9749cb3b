-- `export::size::digits` meets its contract: the library's digits are the model's. Assumes nothing.
use mathlib.Core.Path.{ap, ◌∙◌}
use lib.ListN.{length}
use Rattle.text.proofs.Digits.{decimal-is}
use Rattle.export.proofs.size.digits.Goals as goal

pub returns : goal.returns
returns c = ap length (c.format.ensures.text ∙ decimal-is c.args.n c.ranges.n.fits)
