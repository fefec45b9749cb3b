-- `Counts::fits` meets its contract. Assumes nothing.
use borrow.Author.Tests.{eq-eqb, ne_eqb, le-leb, lt-leb}
use Rattle.model.specs.Types.{fits}
use Rattle.format.proofs.table.Counts.fits.Goals as goal

ruleset tests = (eq-eqb, ne_eqb, le-leb, lt-leb)

pub returns-then-low-n : goal.returns-then-low-n
unfolding fits
returns-then-low-n c = rw c.in-FromTo.is (search tests)

pub returns-else-low-n : goal.returns-else-low-n
unfolding fits
returns-else-low-n c = rw c.in-FromTo.is (search tests)

pub returns-in-SetAndEach : goal.returns-in-SetAndEach
returns-in-SetAndEach c = rw c.in-SetAndEach.is c.set_and_each.ensures
