-- `refused` meets its contract. Assumes nothing.
use Rattle.model.specs.Report.{report_of}
use Rattle.report.proofs.refused.Goals as goal

pub returns : goal.returns
unfolding report_of
returns c board = rw c.after.ensures
