-- `parent_ok` meets its contract, rule by rule. Assumes nothing.
use mathlib.Core.Path.{◌∙◌}
use Rattle.format.proofs.Traits.{knows}
use Rattle.state.proofs.At.{at_places}
use Rattle.state.proofs.Had.{at-had, row-had}
use Rattle.links.proofs.Checks.{parent-zeros, parent-config, no-config, parent-typed, no-typed, typed-in}
use native.Mathlib.Omega.{arith}
use borrow.Author.Tests.{eq-eqb}
use Rattle.links.proofs.parent_ok.Goals as goal

pub part-requires : goal.part-requires
part-requires c =
    let p = at_places (at-had c.args.listed.now.candidate.now.at_item) in
    let w = knows c.of.ensures in
    omega arith

pub returns-in-Zeros : goal.returns-in-Zeros
returns-in-Zeros c =
    rw c.in-Zeros.is
    (rw (c.part.ensures.len, c.part.ensures.value) at c.is_zero.ensures ∙ parent-zeros (at-had c.args.listed.now.candidate.now.at_item) _ (knows c.of.ensures).address)

pub returns-then-parent-ne0 : goal.returns-then-parent-ne0
returns-then-parent-ne0 c =
    rw c.in-LatestConfig.is
    (parent-config (at-had c.args.listed.now.candidate.now.at_item) c.if-parent-ne0.true)

pub returns-else-parent-ne0 : goal.returns-else-parent-ne0
returns-else-parent-ne0 c =
    rw (c.in-LatestConfig.is, eq-eqb _ 0 c.if-parent-ne0.false)
    (no-config (at-had c.args.listed.now.candidate.now.at_item) c.if-parent-ne0.false)

pub entry-requires : goal.entry-requires
entry-requires c =
    let l = c.args.listed.now in
    let next = l.candidate.now in
    (omega arith, typed-in (at-had next.at_item) c.in-OfType.code l.row (row-had next.board.now next.state l.row l.listed) c.in-OfType.is)

pub returns-then-parent-ne0-2 : goal.returns-then-parent-ne0-2
returns-then-parent-ne0-2 c =
    let e = c.entry in
    rw c.in-OfType.is
    (parent-typed (at-had c.args.listed.now.candidate.now.at_item) _ c.if-parent-ne0-2.true e.result e.ensures)

pub returns-else-parent-ne0-2 : goal.returns-else-parent-ne0-2
returns-else-parent-ne0-2 c =
    rw (c.in-OfType.is, eq-eqb _ 0 c.if-parent-ne0-2.false)
    (no-typed (at-had c.args.listed.now.candidate.now.at_item) _ c.if-parent-ne0-2.false)
