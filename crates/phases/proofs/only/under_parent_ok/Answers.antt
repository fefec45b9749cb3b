-- `only::under_parent_ok` meets its contract. Assumes nothing.
use mathlib.Core.Path.{sym, ◌∙◌}
use Rattle.state.proofs.Had.{at-had}
use Rattle.phases.proofs.Once.{parent-other, parent-some}
use Rattle.phases.proofs.only.under_parent_ok.Goals as goal

pub returns-then-not-is_single : goal.returns-then-not-is_single
returns-then-not-is_single c =
    rw c.if-not-is_single.true
    (parent-other (at-had c.args.next.now.at_item) (sym c.is_single.ensures ∙ c.if-not-is_single.true))

pub returns-else-not-is_single : goal.returns-else-not-is_single
returns-else-not-is_single c =
    parent-some (at-had c.args.next.now.at_item) (sym c.is_single.ensures ∙ c.if-not-is_single.false) _
    (rw (c.passed.ensures.board, c.passed.ensures.count) at c.has_child.ensures)
