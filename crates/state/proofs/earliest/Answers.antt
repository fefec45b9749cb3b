-- `earliest` meets its contract. Assumes nothing.
use borrow.Author.Tests.{eq-eqb, ne_eqb}
use Rattle.model.specs.Lists.{if◌then◌otherwise◌}
use Rattle.state.specs.After.{later, earliest}
use Rattle.state.proofs.earliest.Goals as goal

pub returns-then-old-eq0 : goal.returns-then-old-eq0
unfolding later earliest if◌then◌otherwise◌
returns-then-old-eq0 c = rw (eq-eqb _ _ c.if-old-eq0.true) c.later.ensures

pub returns-else-old-eq0 : goal.returns-else-old-eq0
unfolding earliest if◌then◌otherwise◌
returns-else-old-eq0 c = rw (ne_eqb _ _ c.if-old-eq0.false)
