-- `count` meets its contract: a receipt has some words. Assumes nothing.
use Rattle.receipts.proofs.Places.{size-some}
use Rattle.receipts.proofs.count.Goals as goal

pub nonzero_div-result : goal.nonzero_div-result
nonzero_div-result c = size-some _ c.size.ensures
