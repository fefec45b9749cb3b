-- `is_session_of` meets its contract: a session has a first content word, its voter. Assumes nothing.
use native.Mathlib.Omega.{arith}
use borrow.Author.Tests.{ne_eqb}
use Rattle.index.proofs.Had.{kept-had}
use Rattle.index.proofs.Reading.{known-within}
use Rattle.lookup.proofs.Views.{session-other, session-same, session-words}
use Rattle.lookup.proofs.is_session_of.Goals as goal

pub offset_bounds-passed-item : goal.offset_bounds-passed-item
offset_bounds-passed-item c =
    let words = session-words (kept-had c.args.passed.now.kept) c.requires.0 c.requires.1 c.entry.ensures c.if-item-eq-SESSION.true in
    omega (arith, (known-within c.entry.ensures).content, words)

pub bounds-passed-item : goal.bounds-passed-item
bounds-passed-item c =
    let words = session-words (kept-had c.args.passed.now.kept) c.requires.0 c.requires.1 c.entry.ensures c.if-item-eq-SESSION.true in
    omega (arith, (known-within c.entry.ensures).content, words)

pub returns-then-item-eq-SESSION : goal.returns-then-item-eq-SESSION
returns-then-item-eq-SESSION c =
    session-same c.entry.ensures _ c.if-item-eq-SESSION.true
    (session-words (kept-had c.args.passed.now.kept) c.requires.0 c.requires.1 c.entry.ensures c.if-item-eq-SESSION.true)

pub returns-else-item-eq-SESSION : goal.returns-else-item-eq-SESSION
returns-else-item-eq-SESSION c =
    rw (ne_eqb _ _ c.if-item-eq-SESSION.false) (session-other c.entry.ensures c.args.voter c.if-item-eq-SESSION.false)
