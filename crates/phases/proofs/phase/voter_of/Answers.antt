-- `phase::voter_of` meets its contract. Assumes nothing.
use native.Mathlib.Omega.{arith}
use Rattle.state.specs.Reached.{history_before}
use Rattle.phases.proofs.Voter.{no-voter, session-range, voter-within, voter-is}
use Rattle.state.proofs.Had.{at-had}
use Rattle.phases.proofs.phase.voter_of.Goals as goal

pub returns-then-session-eq0 : goal.returns-then-session-eq0
returns-then-session-eq0 c = no-voter (history_before c.args.next.now) c.args.session c.if-session-eq0.true

pub entry-requires : goal.entry-requires
entry-requires c = session-range (at-had c.args.next.now.at_item).kept c.requires c.if-session-eq0.false

pub offset_bounds-next-entry : goal.offset_bounds-next-entry
offset_bounds-next-entry c =
    omega (arith, (at-had c.args.next.now.at_item).kept.words, voter-within (at-had c.args.next.now.at_item).kept c.requires c.if-session-eq0.false c.entry.ensures)

pub bounds-next-entry : goal.bounds-next-entry
bounds-next-entry c = voter-within (at-had c.args.next.now.at_item).kept c.requires c.if-session-eq0.false c.entry.ensures

pub returns-else-session-eq0 : goal.returns-else-session-eq0
returns-else-session-eq0 c = voter-is (at-had c.args.next.now.at_item).kept c.requires c.if-session-eq0.false c.entry.ensures
