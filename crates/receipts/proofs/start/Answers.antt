-- `start` meets its contract: the first words are none, the rest zeros. Assumes nothing.
use mathlib.Core.Path.{◌≡◌}
use lib.ListN.{replicate}
use Rattle.model.specs.Report.{no_number}
use Rattle.receipts.proofs.Answers.{none-first}
use borrow.Author.Rules.{rules}
use Rattle.receipts.proofs.start.Goals as goal

pub returns : goal.returns
returns c =
    let first : c.fill.new.self ≡ replicate c.args.total no_number = search rules in
    none-first c.requires first c.clear.ensures
