-- `later` meets its contract. Assumes nothing.
use Rattle.model.specs.Lists.{if◌then◌otherwise◌}
use Rattle.state.specs.After.{later}
use Rattle.state.proofs.later.Goals as goal

pub returns-then-test : goal.returns-then-test
unfolding later if◌then◌otherwise◌
returns-then-test c = rw c.if-test.true

pub returns-else-test : goal.returns-else-test
unfolding later if◌then◌otherwise◌
returns-else-test c = rw c.if-test.false
