-- `session_ok` meets its contract. Assumes nothing.
use native.Mathlib.Omega.{arith}
use mathlib.Core.Path.{refl, ◌∙◌}
use lib.ListN.{length-take, length-drop}
use borrow.Author.Tests.{le-leb, lt-leb}
use Rattle.state.proofs.Had.{at-had}
use Rattle.voting.proofs.Rules.{session-other, session-words, session-set, session-is}
use Rattle.voting.proofs.session_ok.Goals as goal

pub returns-then-next-ne-SESSION : goal.returns-then-next-ne-SESSION
returns-then-next-ne-SESSION c = session-other (at-had c.args.next.now.at_item) c.if-next-ne-SESSION.true

pub slice_bounds-contests_ok-count : goal.slice_bounds-contests_ok-count
slice_bounds-contests_ok-count c = omega (arith, session-words (at-had c.args.next.now.at_item) c.if-next-ne-SESSION.false _ c.content_of-content.ensures)

pub slice_bounds-contests_ok-start : goal.slice_bounds-contests_ok-start
slice_bounds-contests_ok-start c = omega (arith, session-words (at-had c.args.next.now.at_item) c.if-next-ne-SESSION.false _ c.content_of-content.ensures)

pub contests_ok-requires : goal.contests_ok-requires
contests_ok-requires c =
    simp (length-take, length-drop) (omega (arith, session-words (at-had c.args.next.now.at_item) c.if-next-ne-SESSION.false _ c.content_of-content.ensures))

pub returns-then-word-ge1 : goal.returns-then-word-ge1
returns-then-word-ge1 c =
    let next = c.args.next.now in
    let at = at-had next.at_item in
    let content = c.content_of-content in
    let weight = rw content.ensures at c.word.ensures in
    let contests = session-set at content.result.now in
    c.contests_ok.ensures next.board.now at.stands
    ∙ rw (le-leb _ _ c.if-word-ge1.true) at (session-is at c.if-next-ne-SESSION.false _ _ content.ensures contests _ weight)

pub returns-else-word-ge1 : goal.returns-else-word-ge1
returns-else-word-ge1 c =
    let at = at-had c.args.next.now.at_item in
    let content = c.content_of-content in
    let weight = rw content.ensures at c.word.ensures in
    let none = lt-leb _ _ c.if-word-ge1.false in
    none ∙ rw none at (session-is at c.if-next-ne-SESSION.false _ _ content.ensures refl _ weight)
