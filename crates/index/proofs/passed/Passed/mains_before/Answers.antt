-- `mains_before` meets its contract: its column of the row counts the main items before. Assumes nothing.
use mathlib.Core.Path.{◌∙◌}
use Rattle.index.proofs.Had.{kept-had}
use Rattle.index.proofs.Rows.{row-says}
use Rattle.index.proofs.passed.Passed.mains_before.Goals as goal

pub returns : goal.returns
returns c =
    c.word.ensures ∙ (row-says (kept-had c.args.self.now.kept) c.args.k c.requires.0 c.requires.1).mains
