-- `answer_accepted` meets its contract. The loop's invariant: the answers are those in the first items. Assumes nothing.
use native.Mathlib.Omega.{arith}
use mathlib.Core.Path.{◌≡◌}
use Rattle.receipts.proofs.Answers.{answers-begin, answers-end}
use Rattle.receipts.proofs.answer_accepted.Goals as goal

pub loop-done-init : goal.loop-done-init
loop-done-init c = answers-begin _ _ c.start.auto.answers c.count.ensures c.start.ensures

pub returns : goal.returns
returns c =
    let all : c.loop-done.done ≡ c.args.passed.now.count = omega arith in
    answers-end _ _ all c.args.answers.now c.start.auto.answers c.loop-done.invariant
