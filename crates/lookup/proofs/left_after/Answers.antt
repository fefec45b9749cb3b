-- `left_after` meets its contract: the two returns are the two cases of the kind. Assumes nothing.
use borrow.Author.Tests.{eq-eqb, ne_eqb}
use Rattle.model.specs.Lists.{if◌then◌otherwise◌}
use Rattle.lookup.proofs.left_after.Goals as goal

pub returns-then-e-eq-MAIN : goal.returns-then-e-eq-MAIN
unfolding if◌then◌otherwise◌
returns-then-e-eq-MAIN c = search eq-eqb

pub returns-else-e-eq-MAIN : goal.returns-else-e-eq-MAIN
unfolding if◌then◌otherwise◌
returns-else-e-eq-MAIN c = search ne_eqb
