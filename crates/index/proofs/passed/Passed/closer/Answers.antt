-- `closer` meets its contract: its column of the row says what closed the item. Assumes nothing.
use mathlib.Core.Path.{ap, ◌∙◌}
use Rattle.index.specs.Rows.{number_in}
use Rattle.index.proofs.Had.{kept-had}
use Rattle.index.proofs.Rows.{row-closer}
use Rattle.index.proofs.passed.Passed.closer.Goals as goal

pub returns : goal.returns
returns c =
    c.number_in.ensures ∙ ap number_in c.word.ensures ∙ row-closer (kept-had c.args.self.now.kept) c.args.k c.requires.0 c.requires.1
