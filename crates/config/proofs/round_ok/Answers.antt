-- `round_ok` meets its contract. Assumes nothing.
use native.Mathlib.Omega.{arith}
use mathlib.Core.Path.{◌∙◌}
use borrow.Author.Tests.{le-leb, lt-leb, lt-ltb}
use borrow.Author.Rules.{rules}
use Rattle.state.proofs.Had.{at-had}
use Rattle.config.proofs.Rules.{round-other, round-words, round-is}
use Rattle.config.proofs.round_ok.Goals as goal
use Rattle.config.proofs.round_ok.Goals.{then-number-le-ROUND, else-number-le-ROUND}

pub returns-then-next-ne-ROUND : goal.returns-then-next-ne-ROUND
returns-then-next-ne-ROUND c = round-other (at-had c.args.next.now.at_item) c.if-next-ne-ROUND.true

pub overflow_sub-end : goal.overflow_sub-end
overflow_sub-end c = omega (arith, round-words (at-had c.args.next.now.at_item) c.if-next-ne-ROUND.false _ c.content_of-content.ensures)

pub overflow_sub-start : goal.overflow_sub-start
overflow_sub-start c = omega (arith, round-words (at-had c.args.next.now.at_item) c.if-next-ne-ROUND.false _ c.content_of-content.ensures)

pub pair_at-from-requires : goal.pair_at-from-requires
pair_at-from-requires c = omega (arith, round-words (at-had c.args.next.now.at_item) c.if-next-ne-ROUND.false _ c.content_of-content.ensures)

pub pair_at-to-requires : goal.pair_at-to-requires
pair_at-to-requires c = omega (arith, round-words (at-had c.args.next.now.at_item) c.if-next-ne-ROUND.false _ c.content_of-content.ensures)

pub overflow_sub-start-2 : goal.overflow_sub-start-2
overflow_sub-start-2 c = omega (arith, round-words (at-had c.args.next.now.at_item) c.if-next-ne-ROUND.false _ c.content_of-content.ensures)

pub part-contests-requires : goal.part-contests-requires
part-contests-requires c = omega (arith, round-words (at-had c.args.next.now.at_item) c.if-next-ne-ROUND.false _ c.content_of-content.ensures)

pub contests_ok-requires : goal.contests_ok-requires
contests_ok-requires c =
    omega (arith, c.part-contests.ensures.len, round-words (at-had c.args.next.now.at_item) c.if-next-ne-ROUND.false _ c.content_of-content.ensures)

pub returns-then-from-to : goal.returns-then-from-to
returns-then-from-to c =
    let next = c.args.next.now in
    let content = c.content_of-content in
    let at = at-had next.at_item in
    let number = rw content.ensures at c.word-number.ensures in
    let (low, before) = c.if-from-to.true in
    c.contests_ok.ensures next.board.now at.stands
    ∙ rw (c.part-contests.ensures.value) (rw (le-leb _ _ low, lt-ltb _ _ before) at
    (round-is at c.if-next-ne-ROUND.false content.result.now content.ensures _ _ _ number c.pair_at-from.ensures c.pair_at-to.ensures))

pub returns-else-from-to : goal.returns-else-from-to
returns-else-from-to c =
    let next = c.args.next.now in
    let content = c.content_of-content in
    let number = rw content.ensures at c.word-number.ensures in
    let rule = round-is (at-had next.at_item) c.if-next-ne-ROUND.false content.result.now content.ensures _ _ _ number c.pair_at-from.ensures c.pair_at-to.ensures in
    elim c.if-number-le-ROUND.branch [
      | then-number-le-ROUND w ↦ let late = rw (le-leb _ _ w.if-number-le-ROUND.true) at rule in search rules
      | else-number-le-ROUND w ↦ let high = rw (lt-leb _ _ w.if-number-le-ROUND.false) at rule in search rules
    ]
