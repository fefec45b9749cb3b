-- `run` meets its contract. The invariant: the audit stands behind the items so far, and the answer is that from there on. Assumes nothing.
use native.Mathlib.Omega.{arith}
use mathlib.Core.Path.{◌∙◌}
use Rattle.audit.proofs.Loop.{going_start, stop-ended, stop-closing, stop-full, stop-refused, going_on, going_less}
use Rattle.audit.proofs.run.run.Goals as goal

pub loop-s-init : goal.loop-s-init
loop-s-init c =
    let p = c.requires in
    going_start _ _ _ p.sized.0 p.sized.1 p.sized.2 p.parents_value c.new-s.ensures.0 (c.new-s.ensures.1 c.args.board.now)

pub refused-requires : goal.refused-requires
refused-requires c = c.loop-s.invariant.reached.kept.few

pub shape_of-index-then-board-place : goal.shape_of-index-then-board-place
shape_of-index-then-board-place c = c.loop-s.invariant.index-size

pub shape_of-ballots-then-board-place : goal.shape_of-ballots-then-board-place
shape_of-ballots-then-board-place c = c.loop-s.invariant.ballots-size

pub shape_of-parents-then-board-place : goal.shape_of-parents-then-board-place
shape_of-parents-then-board-place c = c.loop-s.invariant.parents-size

pub shape_of-sessions-then-board-place : goal.shape_of-sessions-then-board-place
shape_of-sessions-then-board-place c = c.loop-s.invariant.sessions-size

pub returns-then-board-place : goal.returns-then-board-place
returns-then-board-place c =
    let a = stop-ended c.args.board.now c.args.verdicts.now c.args.roll.now.words.now c.loop-s.invariant c.if-board-place.true
    c.refused.result (c.refused.ensures c.args.board.now) in
    record { answer = a.0; tables = a.1 }

pub close-requires : goal.close-requires
close-requires c = record { tallied = c.loop-s.invariant.reached.tallied; place_in_bounds = c.if-board-place.false }

pub shape_of-index-then-of-eq-CLOSING : goal.shape_of-index-then-of-eq-CLOSING
shape_of-index-then-of-eq-CLOSING c = c.loop-s.invariant.index-size

pub shape_of-ballots-then-of-eq-CLOSING : goal.shape_of-ballots-then-of-eq-CLOSING
shape_of-ballots-then-of-eq-CLOSING c = c.loop-s.invariant.ballots-size

pub shape_of-parents-then-of-eq-CLOSING : goal.shape_of-parents-then-of-eq-CLOSING
shape_of-parents-then-of-eq-CLOSING c = c.loop-s.invariant.parents-size

pub shape_of-sessions-then-of-eq-CLOSING : goal.shape_of-sessions-then-of-eq-CLOSING
shape_of-sessions-then-of-eq-CLOSING c = c.loop-s.invariant.sessions-size

pub returns-then-of-eq-CLOSING : goal.returns-then-of-eq-CLOSING
returns-then-of-eq-CLOSING c =
    let a = stop-closing c.args.board.now c.args.verdicts.now c.args.roll.now.words.now c.loop-s.invariant c.if-board-place.false
    c.of.ensures c.if-of-eq-CLOSING.true c.close.result c.close.ensures in
    record { answer = a.0; tables = a.1 }

pub refused-requires-then-s-eq-ITEMS : goal.refused-requires-then-s-eq-ITEMS
refused-requires-then-s-eq-ITEMS c = c.loop-s.invariant.reached.kept.few

pub shape_of-index-then-s-eq-ITEMS : goal.shape_of-index-then-s-eq-ITEMS
shape_of-index-then-s-eq-ITEMS c = c.loop-s.invariant.index-size

pub shape_of-ballots-then-s-eq-ITEMS : goal.shape_of-ballots-then-s-eq-ITEMS
shape_of-ballots-then-s-eq-ITEMS c = c.loop-s.invariant.ballots-size

pub shape_of-parents-then-s-eq-ITEMS : goal.shape_of-parents-then-s-eq-ITEMS
shape_of-parents-then-s-eq-ITEMS c = c.loop-s.invariant.parents-size

pub shape_of-sessions-then-s-eq-ITEMS : goal.shape_of-sessions-then-s-eq-ITEMS
shape_of-sessions-then-s-eq-ITEMS c = c.loop-s.invariant.sessions-size

pub returns-then-s-eq-ITEMS : goal.returns-then-s-eq-ITEMS
returns-then-s-eq-ITEMS c =
    let a = stop-full c.args.board.now c.args.verdicts.now c.args.roll.now.words.now c.loop-s.invariant c.if-board-place.false
    c.of.ensures c.if-of-eq-CLOSING.false c.if-s-eq-ITEMS.true
    c.refused-then-s-eq-ITEMS.result (c.refused-then-s-eq-ITEMS.ensures c.args.board.now) in
    record { answer = a.0; tables = a.1 }

pub advance-requires : goal.advance-requires
advance-requires c =
    let few = c.loop-s.invariant.reached.kept.few in
    let more = c.if-s-eq-ITEMS.false in
    record { reached = c.loop-s.invariant.reached; place_in_bounds = (c.if-board-place.false, omega arith) }

pub refused-requires-in-Err : goal.refused-requires-in-Err
refused-requires-in-Err c = c.loop-s.invariant.reached.kept.few

pub shape_of-index-in-Err : goal.shape_of-index-in-Err
shape_of-index-in-Err c = c.advance.auto.index ∙ c.loop-s.invariant.index-size

pub shape_of-ballots-in-Err : goal.shape_of-ballots-in-Err
shape_of-ballots-in-Err c = c.advance.auto.ballots ∙ c.loop-s.invariant.ballots-size

pub shape_of-parents-in-Err : goal.shape_of-parents-in-Err
shape_of-parents-in-Err c = c.advance.auto.parents ∙ c.loop-s.invariant.parents-size

pub shape_of-sessions-in-Err : goal.shape_of-sessions-in-Err
shape_of-sessions-in-Err c = c.advance.auto.sessions ∙ c.loop-s.invariant.sessions-size

pub returns-in-Err : goal.returns-in-Err
returns-in-Err c =
    let few = c.loop-s.invariant.reached.kept.few in
    let more = c.if-s-eq-ITEMS.false in
    let a = stop-refused c.args.board.now c.args.verdicts.now c.args.roll.now.words.now c.loop-s.invariant c.if-board-place.false c.of.ensures
    c.if-of-eq-CLOSING.false (omega arith) c.advance.ensures _ c.in-Err.is c.refused-in-Err.result
    (c.refused-in-Err.ensures c.args.board.now) in
    record { answer = a.0; tables = a.1 }

pub loop-s-smaller : goal.loop-s-smaller
loop-s-smaller c =
    let few = c.loop-s.invariant.reached.kept.few in
    let more = c.if-s-eq-ITEMS.false in
    going_less c.args.board.now c.args.verdicts.now c.args.roll.now.words.now c.loop-s.invariant c.if-board-place.false c.of.ensures
    c.if-of-eq-CLOSING.false (omega arith) c.advance.ensures _ c.in-Ok.is

pub loop-s-preserved : goal.loop-s-preserved
loop-s-preserved c =
    let few = c.loop-s.invariant.reached.kept.few in
    let more = c.if-s-eq-ITEMS.false in
    let k = c.advance.auto in
    going_on c.args.board.now c.args.verdicts.now c.args.roll.now.words.now c.loop-s.invariant c.if-board-place.false c.of.ensures
    c.if-of-eq-CLOSING.false (omega arith) c.advance.ensures _ c.in-Ok.is k.index k.ballots k.parents k.sessions
