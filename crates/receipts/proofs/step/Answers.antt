-- `step` meets its contract: a cast gives its main number to its receipts, and another item changes no answer. Assumes nothing.
use native.Mathlib.Omega.{arith}
use Rattle.index.proofs.Had.{kept-had}
use Rattle.lookup.proofs.Views.{is_known}
use Rattle.receipts.proofs.Answers.{mains-few, other-next, cast-next}
use Rattle.receipts.proofs.step.Goals as goal

pub returns-then-e-ne-CAST : goal.returns-then-e-ne-CAST
returns-then-e-ne-CAST c =
    other-next (kept-had c.args.linked.now.asked.passed.kept) c.requires.done_in _ _ c.requires.room c.requires.answers_value c.entry-e.ensures c.if-e-ne-CAST.true

-- there are fewer main items before it than the limit
pub overflow_add-number : goal.overflow_add-number
overflow_add-number c = omega (arith, mains-few (kept-had c.args.linked.now.asked.passed.kept) c.requires.done_in c.mains_before-number.ensures)

pub overflow_cast-number : goal.overflow_cast-number
overflow_cast-number c = omega (arith, mains-few (kept-had c.args.linked.now.asked.passed.kept) c.requires.done_in c.mains_before-number.ensures)

pub answer_cast-requires : goal.answer_cast-requires
answer_cast-requires c =
    record {
      known = (is_known c.entry-e.ensures, c.if-e-ne-CAST.false);
      room = c.requires.room;
    }

pub returns : goal.returns
returns c =
    cast-next (kept-had c.args.linked.now.asked.passed.kept) c.requires.done_in _ _ c.requires.room c.requires.answers_value c.entry-e.ensures c.if-e-ne-CAST.false c.mains_before-number.ensures c.answer_cast.ensures
