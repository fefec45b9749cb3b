-- `phase::extraction_ok` meets its contract. Assumes nothing.
use Rattle.state.proofs.Had.{at-had}
use Rattle.phases.proofs.Standing.{extraction-before, extraction-type, extraction-other}
use Rattle.phases.proofs.phase.extraction_ok.Goals as goal

pub returns-then-next-eq0 : goal.returns-then-next-eq0
returns-then-next-eq0 c = extraction-before (at-had c.args.next.now.at_item) c.if-next-eq0.true

pub returns-then-eq : goal.returns-then-eq
returns-then-eq c =
    extraction-type (at-had c.args.next.now.at_item) c.if-next-eq0.false (rw c.of-phase.ensures at c.eq.ensures) c.if-eq.true

pub returns-else-eq : goal.returns-else-eq
returns-else-eq c =
    extraction-other (at-had c.args.next.now.at_item) c.if-next-eq0.false (rw c.of-phase.ensures at c.eq.ensures) c.if-eq.false
    (rw c.of-phase.ensures at c.eq-else-eq.ensures)
