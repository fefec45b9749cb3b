-- `put_next` meets its contract: an item that is no main item has no line. Assumes nothing.
use Rattle.index.proofs.Had.{kept-had}
use Rattle.export.proofs.Items.{known-whole, text-main, text-hidden}
use Rattle.export.proofs.Writing.{put-empty}
use Rattle.export.proofs.put_next.Goals as goal

pub returns-then-item-ne-MAIN : goal.returns-then-item-ne-MAIN
returns-then-item-ne-MAIN c =
    put-empty c.args.out.now (text-hidden c.entry.ensures c.if-item-ne-MAIN.true) c.requires.room

pub put_line-requires : goal.put_line-requires
put_line-requires c =
    (known-whole c.entry.ensures (kept-had c.args.passed.now.kept).words, rw (text-main c.entry.ensures c.if-item-ne-MAIN.false) at c.requires.room)

pub returns : goal.returns
returns c = rw (text-main c.entry.ensures c.if-item-ne-MAIN.false) c.put_line.ensures
