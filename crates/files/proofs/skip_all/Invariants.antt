-- a read gives at most 65,536 bytes
use Rattle.std.proofs.Common.{◌≤◌, ◌*◌}
use Rattle.files.proofs.skip_all.Given as goal

abbrev pub invariant-loop : goal.invariant-loop
invariant-loop g l = l.total ≤ 65536 * l.counter
