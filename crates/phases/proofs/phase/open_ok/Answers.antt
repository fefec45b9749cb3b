-- `phase::open_ok` meets its contract. Assumes nothing.
use native.Mathlib.Omega.{arith}
use mathlib.Core.Path.{sym, ◌∙◌}
use borrow.Author.Tests.{not-true, not-false}
use Rattle.state.proofs.At.{at_places}
use Rattle.state.proofs.Had.{at-had}
use Rattle.phases.proofs.Standing.{open-other, open-voting}
use Rattle.phases.proofs.phase.open_ok.Goals as goal

pub returns-then-ne : goal.returns-then-ne
returns-then-ne c =
    open-other (at-had c.args.next.now.at_item) (not-true _ (sym (rw c.of.ensures at c.ne.ensures) ∙ c.if-ne.true))

pub pair_at-time-requires : goal.pair_at-time-requires
pair_at-time-requires c = omega (arith, at_places (at-had c.args.next.now.at_item))

pub returns : goal.returns
returns c =
    open-voting (at-had c.args.next.now.at_item) (not-false _ (sym (rw c.of.ensures at c.ne.ensures) ∙ c.if-ne.false))
    _ c.pair_at-time.ensures _ (rw (c.progress.ensures.board, c.progress.ensures.state) at c.is_any_open.ensures)
