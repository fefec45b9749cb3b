-- `number_in` meets its contract: the two returns are the two cases of `number_in`. Assumes nothing.
use borrow.Author.Tests.{eq-eqb, ne_eqb}
use Rattle.model.specs.Lists.{if◌then◌otherwise◌}
use Rattle.index.specs.Rows.{number_in}
use Rattle.index.proofs.number_in.Goals as goal

pub returns-then-word-eq-NO_NUMBER : goal.returns-then-word-eq-NO_NUMBER
unfolding number_in if◌then◌otherwise◌
returns-then-word-eq-NO_NUMBER c = search eq-eqb

pub returns-else-word-eq-NO_NUMBER : goal.returns-else-word-eq-NO_NUMBER
unfolding number_in if◌then◌otherwise◌
returns-else-word-eq-NO_NUMBER c = search (eq-eqb, ne_eqb)
