-- `content_of` meets its contract. Assumes nothing.
use mathlib.Core.Path.{◌∙◌}
use Rattle.state.proofs.At.{at-content-words}
use Rattle.state.proofs.Had.{at-had}
use Rattle.fields.proofs.Words.{content-within}
use Rattle.fields.proofs.content_of.Goals as goal

pub part-requires : goal.part-requires
part-requires c = content-within (at-had c.args.next.now.at_item)

pub returns : goal.returns
returns c = c.part.ensures.value ∙ at-content-words (at-had c.args.next.now.at_item)
