-- `session_number` meets its contract: each return is a case of the definition. Assumes nothing.
use Rattle.lookup.proofs.Numbers.{parent-few, session-none, session-new, session-orphan, session-parent}
use borrow.Author.Rules.{rules}
use Rattle.lookup.proofs.session_number.Goals as goal

pub returns-then-code-eq-GENESIS : goal.returns-then-code-eq-GENESIS
returns-then-code-eq-GENESIS c = session-none _ _ _ c.requires.item_value.0 c.if-code-eq-GENESIS.true

pub returns-then-code-eq-SESSION : goal.returns-then-code-eq-SESSION
returns-then-code-eq-SESSION c =
    session-new _ _ _ c.requires.item_value.0 c.if-code-eq-GENESIS.false c.if-code-eq-SESSION.true

pub returns-then-parent-eq0 : goal.returns-then-parent-eq0
returns-then-parent-eq0 c =
    session-orphan _ _ _ c.requires.item_value.0 c.if-code-eq-GENESIS.false _ c.requires.parent_value c.if-code-eq-SESSION.false c.if-parent-eq0.true

pub entry-requires : goal.entry-requires
entry-requires c =
    (search rules, parent-few _ _ _ c.requires.item_value.0 c.if-code-eq-GENESIS.false _ c.requires.parent_value)

pub returns : goal.returns
returns c =
    session-parent _ _ _ c.requires.item_value.0 c.if-code-eq-GENESIS.false _ c.requires.parent_value c.if-code-eq-SESSION.false _ c.entry.ensures
