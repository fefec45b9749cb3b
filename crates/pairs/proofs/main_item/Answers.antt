-- `main_item` meets its contract. Assumes nothing.
use Rattle.pairs.proofs.MainItems.{main-number-in, main-item-is}
use Rattle.pairs.proofs.main_item.Goals as goal

pub entry-requires : goal.entry-requires
entry-requires c = main-number-in c.requires _ c.main_entry-k.ensures

pub returns : goal.returns
returns c = main-item-is c.requires _ c.main_entry-k.ensures _ c.entry.ensures
