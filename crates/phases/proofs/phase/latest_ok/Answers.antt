-- `phase::latest_ok` meets its contract. Assumes nothing.
use Rattle.phases.proofs.Standing.{latest-other, latest-some, session-under}
use mathlib.Core.Path.{sym, ◌∙◌}
use Rattle.state.proofs.Had.{at-had}
use Rattle.phases.proofs.phase.latest_ok.Goals as goal

pub returns-then-not-is_between : goal.returns-then-not-is_between
returns-then-not-is_between c = latest-other (at-had c.args.next.now.at_item) (sym c.is_between.ensures ∙ c.if-not-is_between.true)

pub invariant_of-sessions : goal.invariant_of-sessions
invariant_of-sessions c = record { chained = rw (c.passed.ensures.board, c.passed.ensures.count) c.requires }

pub voter_of-requires : goal.voter_of-requires
voter_of-requires c = session-under (at-had c.args.next.now.at_item) (sym c.is_between.ensures ∙ c.if-not-is_between.false)

pub returns : goal.returns
returns c =
    latest-some (at-had c.args.next.now.at_item) (sym c.is_between.ensures ∙ c.if-not-is_between.false)
    _ c.voter_of.ensures _ (rw (c.passed.ensures.board, c.passed.ensures.count) at c.latest_session.ensures)
