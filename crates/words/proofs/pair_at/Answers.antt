-- `words::pair_at` meets its contract. Assumes nothing.
use mathlib.Core.Path.{◌∙◌, sym}
use Rattle.words.proofs.Runs.{pair-part}
use Rattle.words.proofs.pair_at.Goals as goal

pub returns : goal.returns
returns c = c.joined.ensures ∙ sym (pair-part c.args.a.now c.args.i c.requires)
