-- `words::part` meets its contract. Assumes nothing.
use mathlib.Core.Path.{refl}
use Rattle.words.proofs.Runs.{slice-part}
use Rattle.words.proofs.part.Goals as goal

pub returns-clause-value : goal.returns-clause-value
returns-clause-value c = let x = c.args in slice-part x.a.now x.i x.n _ refl
