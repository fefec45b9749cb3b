-- `on_roll_ok` meets its contract. Assumes nothing.
use mathlib.Core.Path.{◌∙◌}
use Rattle.model.specs.Roll.{on_roll}
use Rattle.state.proofs.Had.{at-had}
use Rattle.roll.proofs.Rules.{roll-other, roll-is}
use Rattle.roll.proofs.on_roll_ok.Goals as goal

pub returns-then-next-ne-SESSION : goal.returns-then-next-ne-SESSION
returns-then-next-ne-SESSION c = roll-other (at-had c.args.next.now.at_item) (on_roll c.args.roll.now.words.now) c.if-next-ne-SESSION.true

pub returns : goal.returns
returns c =
    c.has.ensures
    ∙ rw (c.word.ensures, c.word-2.ensures, c.content_of-content.ensures)
    (roll-is (at-had c.args.next.now.at_item) (on_roll c.args.roll.now.words.now) c.if-next-ne-SESSION.false)
