-- `is_bad_roll` meets its contract. Assumes nothing.
use mathlib.Core.Path.{sym, ◌∙◌}
use mathlib.Core.Bool.{true≢false}
use borrow.Author.Tests.{eq-eqb, ne_eqb}
use Rattle.model.specs.Roll.{is_bad_roll}
use Rattle.model.proofs.Roll.{length-electors}
use Rattle.roll.proofs.is_bad_roll.Goals as goal
use Rattle.roll.proofs.is_bad_roll.Goals.{then-roll-ne0, else-roll-ne0}

pub returns-then-roll-gt-ROLL : goal.returns-then-roll-gt-ROLL
unfolding is_bad_roll
returns-then-roll-gt-ROLL c =
    let value = c.if-roll-gt-ROLL.true in
    elim c.if-roll-ne0.branch [
      | then-roll-ne0 w ↦ rw (value, ne_eqb _ _ w.if-roll-ne0.true)
      | else-roll-ne0 w ↦ rw (value, length-electors c.args.roll.now, eq-eqb _ _ w.if-roll-ne0.false, sym w.value-is ∙ value)
    ]

pub returns-else-roll-gt-ROLL : goal.returns-else-roll-gt-ROLL
unfolding is_bad_roll
returns-else-roll-gt-ROLL c =
    let value = c.if-roll-gt-ROLL.false in
    elim c.if-roll-ne0.branch [
      | then-roll-ne0 w ↦ absurd (true≢false (rw (ne_eqb _ _ w.if-roll-ne0.true) at (sym w.value-is ∙ value)))
      | else-roll-ne0 w ↦ rw (c.rising.ensures, length-electors c.args.roll.now, eq-eqb _ _ w.if-roll-ne0.false, sym w.value-is ∙ value)
    ]
