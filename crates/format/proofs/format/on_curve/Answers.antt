-- `format::on_curve` meets its contract. Assumes nothing.
use borrow.Author.Tests.{ne_eqb}
use Rattle.model.specs.Lists.{if◌then◌otherwise◌}
use Rattle.model.specs.Traits.{curve_of}
use Rattle.format.proofs.format.on_curve.Goals as goal

pub returns-in-1 : goal.returns-in-1
unfolding curve_of if◌then◌otherwise◌
returns-in-1 c = rw c.in-1.is

pub returns-in-2 : goal.returns-in-2
unfolding curve_of if◌then◌otherwise◌
returns-in-2 c = rw c.in-2.is

pub returns-in_default : goal.returns-in_default
unfolding curve_of if◌then◌otherwise◌
returns-in_default c = search ne_eqb
