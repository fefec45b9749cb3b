-- `genesis_ok` meets its contract. Assumes nothing.
use mathlib.Core.Path.{◌∙◌}
use borrow.Author.Tests.{apart_eqb}
use Rattle.state.proofs.Had.{at-had}
use Rattle.config.proofs.Rules.{genesis-other, genesis-is}
use Rattle.config.proofs.genesis_ok.Goals as goal

pub returns-then-next-ne-GENESIS : goal.returns-then-next-ne-GENESIS
returns-then-next-ne-GENESIS c =
    rw (apart_eqb _ _ c.if-next-ne-GENESIS.true) (genesis-other (at-had c.args.next.now.at_item) c.if-next-ne-GENESIS.true)

pub returns-else-next-ne-GENESIS : goal.returns-else-next-ne-GENESIS
returns-else-next-ne-GENESIS c =
    c.is_known.ensures ∙ rw (c.word.ensures, c.content_of.ensures) (genesis-is (at-had c.args.next.now.at_item) c.if-next-ne-GENESIS.false)
