use mathlib.Core.Path.{◌≡◌}
use Rattle.lookup.specs.Buckets.{parent_chain}
use Rattle.notes.proofs.link.Given as goal

abbrev pub invariant-loop-k : goal.invariant-loop-k
invariant-loop-k l = l.chain ≡ parent_chain l.passed.board.now l.k
