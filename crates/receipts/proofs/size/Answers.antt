-- `size` meets its contract: the widths that it adds are the board's. Assumes nothing.
use Rattle.format.proofs.Traits.{sizes, knows}
use borrow.Author.Rules.{rules}
use Rattle.receipts.proofs.size.Goals as goal

pub overflow_add-result : goal.overflow_add-result
overflow_add-result c =
    let b = sizes c.args.board.now in
    let k = knows c.of-f.ensures in
    search (rules, k.signature)
