use Prim.Native.Nat.{◌-◌}
use Rattle.model.specs.Audit.{item_limit}
use Rattle.plan.specs.Planned.{Known}
use Rattle.plan.proofs.Reading.{Going}
use Rattle.plan.proofs.read.Given as goal

abbrev pub invariant-loop-format : goal.invariant-loop-format
invariant-loop-format l = Going l.board l.s × Known l.board l.known

abbrev pub decreases-loop-format : goal.decreases-loop-format
decreases-loop-format l = item_limit - l.s.items
