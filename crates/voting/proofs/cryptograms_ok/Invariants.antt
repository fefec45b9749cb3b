use mathlib.Core.Path.{◌≡◌}
use mathlib.Core.Bool.{true}
use Rattle.model.specs.Content.{cryptograms_ok}
use Rattle.voting.proofs.cryptograms_ok.Given as goal

-- the first k cryptograms passed
abbrev pub invariant-loop-k : goal.invariant-loop-k
invariant-loop-k l = cryptograms_ok l.sets l.size l.k l.content ≡ true
