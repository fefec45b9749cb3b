-- `compare_accepted` meets its contract: 19 by the main number, and else what the pairs say. Assumes nothing.
use mathlib.Core.Path.{ap}
use Rattle.model.specs.Comparing.{compared}
use Rattle.compare.proofs.Answering.{none-zero, none-past, some-asked}
use Rattle.compare.proofs.compare_accepted.Goals as goal
use Rattle.compare.proofs.compare_accepted.Goals.{then-number-eq0-via-then-number-eq0, then-number-eq0-via-else-number-eq0+then-later-number}

pub returns-then-number-eq0 : goal.returns-then-number-eq0
returns-then-number-eq0 c =
    elim c.then-number-eq0.branch [
      | then-number-eq0-via-then-number-eq0 w ↦ rw c.after.ensures (none-zero _ _ _ _ _ c.args.later.now.counted w.if-number-eq0.true)
      | then-number-eq0-via-else-number-eq0+then-later-number w ↦ rw c.after.ensures (none-past _ _ _ _ _ c.args.later.now.counted w.if-later-number.true)
    ]

pub returns : goal.returns
returns c =
    some-asked _ _ _ _ _ c.args.later.now.counted c.if-number-eq0.false c.if-later-number.false (ap compared c.compare.ensures)
