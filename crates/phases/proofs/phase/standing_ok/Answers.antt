-- `phase::standing_ok` meets its contract. Assumes nothing.
use borrow.Author.Tests.{eq-eqb, ne_eqb}
use Rattle.state.proofs.Had.{at-had}
use Rattle.phases.proofs.Standing.{standing-other, standing-none, standing-some}
use Rattle.phases.proofs.phase.standing_ok.Goals as goal

pub returns-then-next-ne-SESSION : goal.returns-then-next-ne-SESSION
returns-then-next-ne-SESSION c =
    rw (ne_eqb _ _ c.if-next-ne-SESSION.true)
    (standing-other (at-had c.args.next.now.at_item) c.if-next-ne-SESSION.true)

pub returns-then-next-ne0 : goal.returns-then-next-ne0
returns-then-next-ne0 c = standing-some (at-had c.args.next.now.at_item) c.if-next-ne-SESSION.false c.if-next-ne0.true

pub returns-else-next-ne0 : goal.returns-else-next-ne0
returns-else-next-ne0 c =
    rw (eq-eqb _ 0 c.if-next-ne0.false)
    (standing-none (at-had c.args.next.now.at_item) c.if-next-ne-SESSION.false c.if-next-ne0.false)
