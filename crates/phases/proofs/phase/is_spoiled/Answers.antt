-- `phase::is_spoiled` meets its contract: what closed the item is its spoil, if it has one. Assumes nothing.
use borrow.Author.Tests.{eq-eqb}
use Rattle.state.proofs.Had.{at-had}
use Rattle.phases.proofs.Opened.{not-closed, closer-in, closed-by}
use Rattle.phases.proofs.phase.is_spoiled.Goals as goal

pub entry-requires : goal.entry-requires
entry-requires c = closer-in (at-had c.args.next.now.at_item).kept c.args.k _ c.closer-closer.ensures c.if-closer-ne0.true

pub returns-then-closer-ne0 : goal.returns-then-closer-ne0
returns-then-closer-ne0 c = closed-by (at-had c.args.next.now.at_item).kept c.args.k _ c.closer-closer.ensures c.entry.ensures

pub returns-else-closer-ne0 : goal.returns-else-closer-ne0
returns-else-closer-ne0 c =
    rw (eq-eqb _ 0 c.if-closer-ne0.false)
    (not-closed (at-had c.args.next.now.at_item).kept c.args.k _ c.closer-closer.ensures c.if-closer-ne0.false)
