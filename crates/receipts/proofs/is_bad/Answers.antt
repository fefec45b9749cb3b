-- `is_bad` meets its contract: it asks of whole parts of a receipt's size. Assumes nothing.
use Rattle.receipts.proofs.Places.{size-some}
use Rattle.receipts.proofs.is_bad.Goals as goal

pub is_bad_run-requires : goal.is_bad_run-requires
is_bad_run-requires c = size-some _ c.size.ensures
