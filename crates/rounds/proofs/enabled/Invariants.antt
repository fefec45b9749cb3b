use Rattle.state.specs.Reached.{history_behind}
use Rattle.rounds.proofs.Slots.{Enabled}
use Rattle.rounds.proofs.enabled.Given as goal

abbrev pub invariant-loop-slot : goal.invariant-loop-slot
invariant-loop-slot l = Enabled l.time (history_behind l.progress) l.slot-index l.contests
