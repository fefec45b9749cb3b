-- `read` meets its contract. The invariant: the heads before the place are read, and the plan is what is read from there on. Assumes nothing.
use native.Mathlib.Omega.{arith}
use Rattle.plan.proofs.Words.{known_start, known-after}
use Rattle.std.specs.Prelude.{Err}
use Rattle.plan.proofs.Reading.{refused-plan, going_start, stop-ended, stop-closing, stop-full, stop-refused, going_on, blocks-within}
use Rattle.plan.proofs.read.Goals as goal

pub loop-format-init : goal.loop-format-init
loop-format-init c = (going_start c.args.board.now c.requires.0 c.requires.1, known_start c.args.board.now)

pub after-requires : goal.after-requires
after-requires c = c.loop-format.invariant.0.read.few

pub returns-then-board-place : goal.returns-then-board-place
returns-then-board-place c =
    let board = c.args.board.now in
    stop-ended board c.loop-format.invariant.0 c.if-board-place.true (Err c.after.result) (refused-plan board c.after.ensures)

pub close-requires : goal.close-requires
close-requires c = (c.loop-format.invariant.0.read, c.if-board-place.false, c.requires.0)

pub returns-then-of-eq-CLOSING : goal.returns-then-of-eq-CLOSING
returns-then-of-eq-CLOSING c =
    stop-closing c.args.board.now c.loop-format.invariant.0 c.if-board-place.false c.of.ensures c.if-of-eq-CLOSING.true
    c.close.result c.close.ensures

pub after-requires-then-s-eq-ITEMS : goal.after-requires-then-s-eq-ITEMS
after-requires-then-s-eq-ITEMS c = c.loop-format.invariant.0.read.few

pub returns-then-s-eq-ITEMS : goal.returns-then-s-eq-ITEMS
returns-then-s-eq-ITEMS c =
    let board = c.args.board.now in
    stop-full board c.loop-format.invariant.0 c.if-board-place.false c.of.ensures c.if-of-eq-CLOSING.false c.if-s-eq-ITEMS.true
    (Err c.after-then-s-eq-ITEMS.result) (refused-plan board c.after-then-s-eq-ITEMS.ensures)

pub look_at-requires : goal.look_at-requires
look_at-requires c =
    record {
      place_in_bounds = (c.if-board-place.false, c.requires.0);
      format_value = (c.of-format.ensures, c.loop-format.invariant.1);
    }

pub after-requires-in-Err : goal.after-requires-in-Err
after-requires-in-Err c = c.loop-format.invariant.0.read.few

pub returns-in-Err : goal.returns-in-Err
returns-in-Err c =
    let board = c.args.board.now in
    let g = c.loop-format.invariant.0 in
    let few = g.read.few in
    let more = c.if-s-eq-ITEMS.false in
    stop-refused board g c.if-board-place.false c.of.ensures c.if-of-eq-CLOSING.false (omega arith)
    c.look_at.ensures.answer _ c.in-Err.is (Err c.after-in-Err.result) (refused-plan board c.after-in-Err.ensures)

pub overflow_add-s : goal.overflow_add-s
overflow_add-s c = let few = c.loop-format.invariant.0.read.few in omega arith

pub overflow_add-s-in-Ok : goal.overflow_add-s-in-Ok
overflow_add-s-in-Ok c =
    let board = c.args.board.now in
    let g = c.loop-format.invariant.0 in
    let few = g.read.few in
    let more = c.if-s-eq-ITEMS.false in
    let within = blocks-within board g c.if-board-place.false c.of.ensures c.if-of-eq-CLOSING.false (omega arith)
    c.look_at.ensures.answer _ c.in-Ok.is in
    let short = c.requires.0 in
    omega arith

pub loop-format-smaller : goal.loop-format-smaller
loop-format-smaller c =
    let few = c.loop-format.invariant.0.read.few in
    let more = c.if-s-eq-ITEMS.false in
    omega arith

pub loop-format-preserved : goal.loop-format-preserved
loop-format-preserved c =
    let board = c.args.board.now in
    let g = c.loop-format.invariant.0 in
    let few = g.read.few in
    let more = c.if-s-eq-ITEMS.false in (
      going_on board g c.if-board-place.false c.of.ensures c.if-of-eq-CLOSING.false (omega arith)
          c.look_at.ensures.answer _ c.in-Ok.is,
      known-after board _ _ c.loop-format.invariant.1 c.look_at.ensures.known,
    )
