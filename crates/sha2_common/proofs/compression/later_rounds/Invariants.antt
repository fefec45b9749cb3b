use Rattle.std.proofs.Common.{◌≡◌, ◌%◌, ◌≤◌, List}
use Rattle.sha2_common.specs.Rounds.{Onward}
use Rattle.sha2_common.proofs.compression.later_rounds.Given as goal

abbrev pub invariant-loop-t : goal.invariant-loop-t
invariant-loop-t g l =
    (l.t % 4 ≡ 0) × (16 ≤ l.t) × (l.t ≤ g.row.N)
    × ((M : List g.row.F-Word.Denot) → Onward g.F.Functions.functions g.row.N M 16 l.t l.initial.w l.initial.v l.w l.v)
