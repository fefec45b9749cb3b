use Rattle.std.proofs.Common.{◌≡◌, ◌%◌, ◌≤◌}
use Rattle.sha2_common.specs.Rounds.{Onward}
use Rattle.sha2_common.proofs.compression.first_rounds.Given as goal

abbrev pub invariant-loop-t : goal.invariant-loop-t
invariant-loop-t g l =
    let f = g.F.Functions.functions in
    (l.t % 4 ≡ 0) × (l.t ≤ 16) × Onward f g.row.N (f.words l.m) 0 l.t l.initial.w l.initial.v l.w l.v
