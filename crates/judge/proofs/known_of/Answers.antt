-- `known_of` meets its contract. Assumes nothing.
use Rattle.judge.proofs.Item.{item-own, candidate-known}
use Rattle.state.proofs.Had.{stands-held}
use Rattle.judge.proofs.known_of.Goals as goal

pub parent_number-parent-requires : goal.parent_number-parent-requires
parent_number-parent-requires c =
    let v = c.requires.item_value in
    rw c.passed.ensures.board (item-own c.args.progress.now.board.now _ v.0, v.1)

pub session_number-session-requires : goal.session_number-session-requires
session_number-session-requires c =
    let v = c.requires.item_value in
    record {
      item_value = rw c.passed.ensures.board (item-own c.args.progress.now.board.now _ v.0, v.1);
      parent_value = c.parent_number-parent.ensures;
    }

pub returns : goal.returns
returns c =
    let p = c.args.progress.now in
    candidate-known p.board.now (stands-held p.reached) c.requires.item_value.0
    (rw (c.passed.ensures.board, c.passed.ensures.count) at c.parent_number-parent.ensures)
    (rw (c.passed.ensures.board, c.passed.ensures.count) at c.session_number-session.ensures)
