-- `number_word` meets its contract: the two returns are the two cases of `number_word`. Assumes nothing.
use borrow.Author.Tests.{eq-eqb, ne_eqb}
use Rattle.model.specs.Lists.{if◌then◌otherwise◌}
use Rattle.model.specs.Report.{number_word}
use Rattle.index.proofs.number_word.Goals as goal

pub returns-then-number-eq0 : goal.returns-then-number-eq0
unfolding number_word if◌then◌otherwise◌
returns-then-number-eq0 c = search eq-eqb

pub returns-else-number-eq0 : goal.returns-else-number-eq0
unfolding number_word if◌then◌otherwise◌
returns-else-number-eq0 c = search ne_eqb
