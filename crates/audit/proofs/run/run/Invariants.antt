use Prim.Native.Nat.{◌-◌}
use Rattle.model.specs.Audit.{item_limit}
use Rattle.audit.proofs.Loop.{Going}
use Rattle.audit.proofs.run.run.Given as goal

abbrev pub invariant-loop-s : goal.invariant-loop-s
invariant-loop-s l =
    Going l.board l.verdicts l.roll.words.now l.initial.index l.initial.ballots l.initial.parents l.initial.sessions l.index l.ballots l.parents l.sessions l.s

abbrev pub decreases-loop-s : goal.decreases-loop-s
decreases-loop-s l = item_limit - l.s.items
