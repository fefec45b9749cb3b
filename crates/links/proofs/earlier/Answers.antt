-- `earlier` meets its contract. Assumes nothing.
use borrow.Author.Tests.{eq-eqb, ne_eqb}
use Rattle.model.specs.Lists.{if◌then◌otherwise◌}
use Rattle.links.proofs.earlier.Goals as goal

pub returns-then-next-eq-MAIN : goal.returns-then-next-eq-MAIN
unfolding if◌then◌otherwise◌
returns-then-next-eq-MAIN c = rw (eq-eqb _ _ c.if-next-eq-MAIN.true)

pub returns : goal.returns
unfolding if◌then◌otherwise◌
returns c = rw (ne_eqb _ _ c.if-next-eq-MAIN.false)
