-- `end_address` meets its contract. Assumes nothing.
use native.Mathlib.Omega.{arith}
use Rattle.state.proofs.At.{last-in-range, end_none, end-last}
use Rattle.state.proofs.Had.{stands-held}
use Rattle.closing.proofs.Closing.{address-in, words-few, end-put, end-zeros}
use Rattle.closing.proofs.end_address.Goals as goal

pub returns-then-last-eq0 : goal.returns-then-last-eq0
returns-then-last-eq0 c =
    let p = c.args.progress.now in
    end-zeros p.board.now (end_none (stands-held p.reached) c.if-last-eq0.true)

pub entry-requires : goal.entry-requires
entry-requires c =
    let some = c.if-last-eq0.false in
    (omega arith, last-in-range (stands-held c.args.progress.now.reached))

pub offset_bounds-board-item : goal.offset_bounds-board-item
offset_bounds-board-item c = let a = address-in c.entry.ensures in omega arith

pub slice_bounds-put-count : goal.slice_bounds-put-count
slice_bounds-put-count c = let a = address-in c.entry.ensures in omega arith

pub slice_bounds-put-start : goal.slice_bounds-put-start
slice_bounds-put-start c = let a = address-in c.entry.ensures in omega arith

pub put-requires : goal.put-requires
put-requires c = omega (arith, words-few c.entry.ensures)

pub returns : goal.returns
returns c = end-put c.entry.ensures (end-last (stands-held c.args.progress.now.reached) c.if-last-eq0.false) c.put.ensures
