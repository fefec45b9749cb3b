-- `trustees_ok` meets its contract. Assumes nothing.
use native.Mathlib.Omega.{arith}
use mathlib.Core.Path.{refl, ◌∙◌}
use borrow.Author.Tests.{eq-eqb, ne_eqb}
use Rattle.state.proofs.Had.{at-had}
use Rattle.extraction.proofs.Rules.{trustees-other, trustees-is}
use Rattle.extraction.proofs.trustees_ok.Goals as goal

pub returns-then-next-ne-CONFIRMATION : goal.returns-then-next-ne-CONFIRMATION
returns-then-next-ne-CONFIRMATION c = trustees-other (at-had c.args.next.now.at_item) c.if-next-ne-CONFIRMATION.true

pub returns-then-content-ones : goal.returns-then-content-ones
returns-then-content-ones c =
    rw (ne_eqb _ _ c.if-content-ones.true) at
    (trustees-is (at-had c.args.next.now.at_item) c.if-next-ne-CONFIRMATION.false _ c.content_of-content.ensures c.word-trustees.result
    _ _ _ _ _ (omega arith) c.word-trustees.ensures refl refl refl refl refl)

pub returns-then-is_below : goal.returns-then-is_below
returns-then-is_below c =
    let w = c.word-trustees in
    let most = rw (c.passed-passed.ensures.board, c.passed-passed.ensures.count) at c.earlier_word-most.ensures in
    let least = rw (c.passed-passed.ensures.board, c.passed-passed.ensures.count) at c.earlier_word-least.ensures in
    rw (eq-eqb _ _ c.if-content-ones.false, c.if-is_below.true) at
    (trustees-is (at-had c.args.next.now.at_item) c.if-next-ne-CONFIRMATION.false _ c.content_of-content.ensures w.result _ _ _ _ _ (omega arith) w.ensures refl refl
    most least c.is_below.ensures)

pub returns-else-is_below : goal.returns-else-is_below
returns-else-is_below c =
    let w = c.word-trustees in
    let most = rw (c.passed-passed.ensures.board, c.passed-passed.ensures.count) at c.earlier_word-most.ensures in
    let least = rw (c.passed-passed.ensures.board, c.passed-passed.ensures.count) at c.earlier_word-least.ensures in
    c.if-is_below.false ∙ rw (eq-eqb _ _ c.if-content-ones.false, c.if-is_below.false) at
    (trustees-is (at-had c.args.next.now.at_item) c.if-next-ne-CONFIRMATION.false _ c.content_of-content.ensures w.result _ _ _ _ _ (omega arith) w.ensures refl refl
    most least c.is_below.ensures)
