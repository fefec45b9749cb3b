-- `only::under_ballot_ok` meets its contract. Assumes nothing.
use borrow.Author.Tests.{eq-eqb}
use Rattle.state.proofs.Had.{at-had}
use Rattle.phases.proofs.Once.{ballot-other, ballot-none, ballot-in, ballot-some}
use mathlib.Core.Path.{sym, ◌∙◌}
use Rattle.phases.proofs.only.under_ballot_ok.Goals as goal

pub returns-then-not-is_between : goal.returns-then-not-is_between
returns-then-not-is_between c = ballot-other (at-had c.args.next.now.at_item) (sym c.is_between.ensures ∙ c.if-not-is_between.true)

pub returns-then-ballot-eq0 : goal.returns-then-ballot-eq0
returns-then-ballot-eq0 c =
    rw (eq-eqb _ 0 c.if-ballot-eq0.true)
    (ballot-none (at-had c.args.next.now.at_item) (sym c.is_between.ensures ∙ c.if-not-is_between.false) c.if-ballot-eq0.true)

pub closer-requires : goal.closer-requires
closer-requires c = ballot-in (at-had c.args.next.now.at_item) (sym c.is_between.ensures ∙ c.if-not-is_between.false) c.if-ballot-eq0.false

pub returns-else-ballot-eq0 : goal.returns-else-ballot-eq0
returns-else-ballot-eq0 c = ballot-some (at-had c.args.next.now.at_item) (sym c.is_between.ensures ∙ c.if-not-is_between.false) _ c.closer.ensures
