-- `previous_ok` meets its contract: each way out compares what the model compares. Assumes nothing.
use mathlib.Core.Path.{◌∙◌}
use Rattle.format.proofs.Traits.{knows}
use Rattle.state.proofs.At.{at_places, last-in-range}
use Rattle.state.proofs.Had.{at-had}
use Rattle.index.proofs.Reading.{known-within}
use Rattle.links.proofs.Checks.{previous-hidden, previous-first, previous-main}
use native.Mathlib.Omega.{arith}
use borrow.Author.Rules.{rules}
use Rattle.links.proofs.previous_ok.Goals as goal

pub part-previous-requires : goal.part-previous-requires
part-previous-requires c =
    let p = at_places (at-had c.args.next.now.at_item) in
    let w = (knows c.of-width.ensures).address in
    omega arith

pub part-requires : goal.part-requires
part-requires c =
    let p = at_places (at-had c.args.next.now.at_item) in
    let w = (knows c.of-width.ensures).address in
    omega arith

pub returns-then-item-ne-MAIN : goal.returns-then-item-ne-MAIN
returns-then-item-ne-MAIN c = rw (c.part-previous.ensures.value, c.part.ensures.value) at c.same_words.ensures ∙ previous-hidden (at-had c.args.next.now.at_item) _ (knows c.of-width.ensures).address c.if-item-ne-MAIN.true

pub returns-then-last-eq0 : goal.returns-then-last-eq0
returns-then-last-eq0 c =
    rw (c.part-previous.ensures.len, c.part-previous.ensures.value) at c.is_zero.ensures ∙ previous-first (at-had c.args.next.now.at_item) _ (knows c.of-width.ensures).address (search rules) (search rules)

pub entry-e-requires : goal.entry-e-requires
entry-e-requires c = (omega arith, last-in-range (at-had c.args.next.now.at_item).stands)

pub part-requires-2 : goal.part-requires-2
part-requires-2 c =
    let w = (knows c.of-width.ensures).address in
    let e = known-within c.entry-e.ensures in
    omega arith

pub returns : goal.returns
returns c =
    rw (c.part-previous.ensures.value, c.part-2.ensures.value) at c.same_words-2.ensures
    ∙ previous-main (at-had c.args.next.now.at_item) _ (knows c.of-width.ensures).address (search rules) (search rules) c.entry-e.result c.entry-e.ensures
