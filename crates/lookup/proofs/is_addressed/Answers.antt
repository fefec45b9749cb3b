-- `is_addressed` meets its contract: the two returns are the two cases of the kind. Assumes nothing.
use Rattle.index.proofs.Reading.{known-within}
use Rattle.lookup.proofs.Views.{addressed-other, addressed-same}
use Rattle.lookup.proofs.is_addressed.Goals as goal

pub part-requires : goal.part-requires
part-requires c = rw c.requires.2 (known-within c.entry.ensures).address

pub returns-then-item-main : goal.returns-then-item-main
returns-then-item-main c =
    addressed-same c.entry.ensures _ _ c.requires.2 c.if-item-main.true (rw c.part.ensures.value at c.same_words.ensures)

pub returns-else-item-main : goal.returns-else-item-main
returns-else-item-main c = addressed-other c.entry.ensures c.args.main c.args.address.now c.if-item-main.false
