-- `is_open` meets its contract. Assumes nothing.
use native.Mathlib.Omega.{arith}
use Rattle.rounds.proofs.Round.{round-places, open_started, open-unstarted}
use Rattle.rounds.proofs.is_open.Goals as goal

pub overflow_sub-at : goal.overflow_sub-at
overflow_sub-at c = omega (arith, round-places c.requires)

pub overflow_sub-at-2 : goal.overflow_sub-at-2
overflow_sub-at-2 c = omega (arith, round-places c.requires)

pub pair_at-start-requires : goal.pair_at-start-requires
pair_at-start-requires c = omega (arith, round-places c.requires)

pub pair_at-end-requires : goal.pair_at-end-requires
pair_at-end-requires c = omega (arith, round-places c.requires)

pub returns-then-start-time : goal.returns-then-start-time
returns-then-start-time c = open_started c.requires c.args.time _ _ c.pair_at-start.ensures c.pair_at-end.ensures c.if-start-time.true

pub returns-else-start-time : goal.returns-else-start-time
returns-else-start-time c = open-unstarted c.requires c.args.time _ _ c.pair_at-start.ensures c.pair_at-end.ensures c.if-start-time.false
