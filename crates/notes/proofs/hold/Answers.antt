-- `hold` meets its contract. The loop's invariant: what is left to say is said by the notes from k on, and the item of the note before is
-- known. Assumes nothing.
use mathlib.Core.Path.{sym, ap, ◌∙◌}
use Rattle.format.specs.Format.{format_of}
use Rattle.index.specs.Passed.{history_of}
use Rattle.notes.specs.Holding.{found}
use Rattle.notes.proofs.Places.{counted}
use Rattle.notes.proofs.Wrong.{first-wrong, next-note, none_left, before-next, held-begins, before-none}
use Rattle.notes.proofs.hold.Goals as goal

pub loop-k-init : goal.loop-k-init
loop-k-init c =
    let a = c.args.held.now in
    let f = format_of a.parents.passed.board.now in
    let h = history_of a.parents.passed in
    (held-begins f a.notes.now h (counted _ a.notes.now c.size.ensures), before-none f a.notes.now h)

pub returns-in-Err : goal.returns-in-Err
returns-in-Err c =
    let l = c.loop-k in
    sym (l.invariant.0 ∙ first-wrong _ _ _ l.k c.loop-k-test.true c.judge.ensures (ap found c.in-Err.is))

pub loop-k-preserved : goal.loop-k-preserved
loop-k-preserved c =
    let l = c.loop-k in
    let goes = next-note _ _ _ l.k c.loop-k-test.true c.judge.ensures (ap found c.in_default.is) in
    (l.invariant.0 ∙ goes, before-next _ _ _ l.k c.meant-item.ensures)

pub returns : goal.returns
returns c = let l = c.loop-k in sym (l.invariant.0 ∙ none_left _ _ _ l.k c.loop-k-test.false)
