-- `put_closer` meets its contract: its returns are the two cases of `closed_by`, and a ballot has a row. Assumes nothing.
use mathlib.Core.Path.{sym, ◌∙◌}
use native.Mathlib.Omega.{arith}
use borrow.Author.Rules.{rules}
use Rattle.model.proofs.Tests.{passes}
use Rattle.index.proofs.Putting.{closed_none, closed_some}
use Rattle.index.proofs.put_closer.Goals as goal

pub returns-then-not-is_between : goal.returns-then-not-is_between
returns-then-not-is_between c = closed_none c.args.c _ _ (sym c.is_between.ensures ∙ c.if-not-is_between.true)

-- a ballot has a row
pub overflow_sub-row : goal.overflow_sub-row
overflow_sub-row c =
    let ballot = c.requires.le_parent (passes (sym c.is_between.ensures ∙ c.if-not-is_between.false)) in
    omega (arith, ballot)

pub overflow_mul-row : goal.overflow_mul-row
overflow_mul-row c =
    let ballot = c.requires.le_parent (passes (sym c.is_between.ensures ∙ c.if-not-is_between.false)) in
    search (rules, ballot)

pub overflow_add-index-2 : goal.overflow_add-index-2
overflow_add-index-2 c =
    let ballot = c.requires.le_parent (passes (sym c.is_between.ensures ∙ c.if-not-is_between.false)) in
    search (rules, ballot)

pub offset_bounds-index-row : goal.offset_bounds-index-row
offset_bounds-index-row c =
    let ballot = c.requires.le_parent (passes (sym c.is_between.ensures ∙ c.if-not-is_between.false)) in
    search (rules, ballot)

pub bounds-index-row : goal.bounds-index-row
bounds-index-row c =
    let ballot = c.requires.le_parent (passes (sym c.is_between.ensures ∙ c.if-not-is_between.false)) in
    search (rules, ballot)

pub returns : goal.returns
returns c = closed_some c.args.c _ _ (sym c.is_between.ensures ∙ c.if-not-is_between.false)
