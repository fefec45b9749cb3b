-- `phase::intent_ok` meets its contract. Assumes nothing.
use borrow.Author.Tests.{ne_eqb}
use Rattle.state.proofs.Had.{at-had}
use Rattle.phases.proofs.Standing.{intent-other, intent-some}
use Rattle.phases.proofs.phase.intent_ok.Goals as goal

pub returns-then-next-ne-INTENT : goal.returns-then-next-ne-INTENT
returns-then-next-ne-INTENT c = rw (ne_eqb _ 32 c.if-next-ne-INTENT.true) (intent-other (at-had c.args.next.now.at_item) c.if-next-ne-INTENT.true)

pub returns-else-next-ne-INTENT : goal.returns-else-next-ne-INTENT
returns-else-next-ne-INTENT c = intent-some (at-had c.args.next.now.at_item) c.if-next-ne-INTENT.false
