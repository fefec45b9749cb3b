-- `look_at` meets its contract. Assumes nothing.
use native.Mathlib.Omega.{arith}
use Rattle.plan.proofs.Looking.{fault-word, fault_past, fault-none, few, hashed-few, end_is, blocks_at_lem}
use Rattle.std.proofs.lemmas.Result.{err_from_is_err_and}
use Rattle.plan.proofs.look_at.Goals as goal

pub returns-in_err-known_finding : goal.returns-in_err-known_finding
returns-in_err-known_finding c =
    let x = c.args in
    let e = err_from_is_err_and c.from_residual.result c.from_residual.ensures.1 in record {
      answer = rw (e.1, e.2) (fault-word x.board.now x.place c.known_finding.ensures.answer _ c.in_err-known_finding.was);
      known = c.known_finding.ensures.known;
    }

pub overflow_add-hashed : goal.overflow_add-hashed
overflow_add-hashed c = let f = few c.args.board.now c.args.place c.of.ensures c.requires.format_value.0 in omega arith

pub overflow_mul-hashed : goal.overflow_mul-hashed
overflow_mul-hashed c = let f = few c.args.board.now c.args.place c.of.ensures c.requires.format_value.0 in omega arith

pub overflow_add-hashed-2 : goal.overflow_add-hashed-2
overflow_add-hashed-2 c = let f = few c.args.board.now c.args.place c.of.ensures c.requires.format_value.0 in omega arith

pub overflow_add-hashed-3 : goal.overflow_add-hashed-3
overflow_add-hashed-3 c = let f = few c.args.board.now c.args.place c.of.ensures c.requires.format_value.0 in omega arith

pub overflow_add-end : goal.overflow_add-end
overflow_add-end c = let f = few c.args.board.now c.args.place c.of.ensures c.requires.format_value.0 in omega arith

pub overflow_add-end-2 : goal.overflow_add-end-2
overflow_add-end-2 c = let f = few c.args.board.now c.args.place c.of.ensures c.requires.format_value.0 in omega arith

pub overflow_add-end-3 : goal.overflow_add-end-3
overflow_add-end-3 c = let f = few c.args.board.now c.args.place c.of.ensures c.requires.format_value.0 in omega arith

pub returns-then-board-end : goal.returns-then-board-end
returns-then-board-end c =
    let x = c.args in
    let ends = end_is x.board.now x.place c.of.ensures c.requires.format_value.0 in record {
      answer = fault_past x.board.now x.place c.known_finding.ensures.answer c.in_ok-known_finding.was ends c.if-board-end.true;
      known = c.known_finding.ensures.known;
    }

pub blocks_of-requires : goal.blocks_of-requires
blocks_of-requires c =
    let x = c.args in
    hashed-few x.board.now x.place c.of.ensures c.requires.format_value.0 c.if-board-end.false c.requires.place_in_bounds.1

pub returns : goal.returns
returns c =
    let x = c.args in
    let ends = end_is x.board.now x.place c.of.ensures c.requires.format_value.0 in record {
      answer = (
        fault-none x.board.now x.place c.known_finding.ensures.answer c.in_ok-known_finding.was ends c.if-board-end.false,
        ends,
        c.if-board-end.false,
        blocks_at_lem x.board.now x.place c.of.ensures c.requires.format_value.0 _ c.blocks_of.ensures,
      );
      known = c.known_finding.ensures.known;
    }
