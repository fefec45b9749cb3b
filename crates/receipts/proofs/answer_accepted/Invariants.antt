use mathlib.Core.Path.{◌≡◌}
use lib.ListN.{length}
use Rattle.receipts.specs.Answering.{answers_up_to}
use Rattle.receipts.proofs.answer_accepted.Given as goal

abbrev pub invariant-loop-done : goal.invariant-loop-done
invariant-loop-done l = l.answers ≡ answers_up_to l.passed.board.now l.receipts l.done (length l.initial.answers)
