-- `list_accepted` meets its contract: 19 by the item number, and else what the climb wrote. Assumes nothing.
use native.Mathlib.Omega.{arith}
use Rattle.index.proofs.Had.{kept-had}
use Rattle.climb.proofs.Steps.{ancestry-few}
use Rattle.ancestry.proofs.Answering.{none-zero, none-past, some-asked}
use Rattle.ancestry.proofs.list_accepted.Goals as goal
use Rattle.ancestry.proofs.list_accepted.Goals.{then-number-eq0-via-then-number-eq0, then-number-eq0-via-else-number-eq0+then-count-number}

pub returns-then-number-eq0 : goal.returns-then-number-eq0
returns-then-number-eq0 c =
    let p = c.args.passed.now in
    elim c.then-number-eq0.branch [
      | then-number-eq0-via-then-number-eq0 w ↦
          let after = none-zero p.board.now p.count c.args.number c.args.list.now c.requires.1 w.if-number-eq0.true in
          record { answer = rw c.after.ensures after.0; list = after.1 }
      | then-number-eq0-via-else-number-eq0+then-count-number w ↦
          let after = none-past p.board.now p.count c.args.number c.args.list.now c.requires.1 w.if-count-number.true in
          record { answer = rw c.after.ensures after.0; list = after.1 }
    ]

pub overflow_cast-result : goal.overflow_cast-result
overflow_cast-result c =
    let kept = kept-had c.args.passed.now.kept in
    let few = ancestry-few {number = c.args.number} kept (omega arith) c.if-count-number.false in
    omega (arith, kept.few, few, c.climb.ensures.answer)

pub returns : goal.returns
returns c =
    let p = c.args.passed.now in
    let climbed = c.climb.ensures in
    let after =
    some-asked p.board.now p.count c.args.number c.args.list.now c.requires.1 (kept-had p.kept) c.if-number-eq0.false c.if-count-number.false c.requires.0 climbed.answer climbed.list in
    record { answer = after.0; list = after.1 }
