-- `is_opening_key` meets its contract. Assumes nothing.
use mathlib.Core.Path.{◌∙◌}
use Rattle.state.proofs.Had.{at-had}
use Rattle.keys.proofs.Keys.{content-within, key-opening-own, key-opening-first}
use Rattle.keys.proofs.is_opening_key.Goals as goal

pub is_key-requires : goal.is_key-requires
is_key-requires c = (content-within (at-had c.args.next.now.at_item), c.requires.0, c.requires.1)

pub returns-then-next-eq0 : goal.returns-then-next-eq0
returns-then-next-eq0 c = c.is_key.ensures ∙ key-opening-own (at-had c.args.next.now.at_item) c.args.key.now c.args.k c.if-next-eq0.true

pub returns-else-next-eq0 : goal.returns-else-next-eq0
returns-else-next-eq0 c = c.is_earlier_key.ensures ∙ key-opening-first (at-had c.args.next.now.at_item) c.args.key.now c.args.k c.if-next-eq0.false
