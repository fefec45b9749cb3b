use Rattle.std.proofs.Common.{◌≡◌, length}
use Rattle.sha2_common.specs.Blocks.{by_rounds, hash_over}
use Rattle.sha2_common.proofs.message.compress_blocks.Given as goal

-- the blocks that are left lead from the hash value so far to that of all
abbrev pub invariant-loop-m : goal.invariant-loop-m
invariant-loop-m g l =
    let f = by_rounds g.F.Functions.functions g.row.N in
    (length l.w ≡ g.row.N) × (l.m-iterator.size ≡ g.row.S) × (hash_over f l.r l.m-iterator.rest.now ≡ hash_over f l.initial.r l.s)
