-- `phase::spoiled_ok` meets its contract. Assumes nothing.
use Rattle.state.proofs.Had.{at-had}
use Rattle.phases.proofs.Opened.{opening-other, opening-none, verifier-in, parent_in, opening-some}
use Rattle.phases.proofs.phase.spoiled_ok.Goals as goal

pub returns-then-next-ne-VOTER_OPENING : goal.returns-then-next-ne-VOTER_OPENING
returns-then-next-ne-VOTER_OPENING c = opening-other (at-had c.args.next.now.at_item) c.if-next-ne-VOTER_OPENING.true

pub returns-then-next-eq0 : goal.returns-then-next-eq0
returns-then-next-eq0 c = opening-none (at-had c.args.next.now.at_item) c.if-next-ne-VOTER_OPENING.false c.if-next-eq0.true

pub parent-start-requires : goal.parent-start-requires
parent-start-requires c = verifier-in (at-had c.args.next.now.at_item) c.if-next-ne-VOTER_OPENING.false c.if-next-eq0.false

pub parent-requires : goal.parent-requires
parent-requires c =
    let a = at-had c.args.next.now.at_item in
    parent_in a (verifier-in a c.if-next-ne-VOTER_OPENING.false c.if-next-eq0.false) c.parent-start.ensures

pub is_spoiled-requires : goal.is_spoiled-requires
is_spoiled-requires c =
    let a = at-had c.args.next.now.at_item in
    parent_in a (parent_in a (verifier-in a c.if-next-ne-VOTER_OPENING.false c.if-next-eq0.false) c.parent-start.ensures) c.parent.ensures

pub returns : goal.returns
returns c =
    opening-some (at-had c.args.next.now.at_item) c.if-next-ne-VOTER_OPENING.false
    _ c.parent-start.ensures _ c.parent.ensures _ c.is_spoiled.ensures
