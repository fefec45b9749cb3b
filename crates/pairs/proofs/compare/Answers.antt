-- `compare` meets its contract: apart by the addresses, and else what the pairs say. Assumes nothing.
use Rattle.pairs.proofs.Walk.{items-addressed, compare-apart, compare-goes}
use Rattle.pairs.proofs.compare.Goals as goal

pub returns-then-not-same_words : goal.returns-then-not-same_words
returns-then-not-same_words c =
    let told = items-addressed c.main_item-end.ensures c.main_item-asked.ensures c.same_words.ensures in
    compare-apart _ _ _ _ c.requires.a_all.1 told c.if-not-same_words.true

pub returns : goal.returns
returns c =
    let told = items-addressed c.main_item-end.ensures c.main_item-asked.ensures c.same_words.ensures in
    compare-goes _ _ _ _ c.requires.a_all.1 told c.if-not-same_words.false c.backwards.ensures
