-- `enabled` meets its contract. The loop's invariant: the set has the contests of the open rounds in the slots before its. Assumes nothing.
use mathlib.Core.Path.{refl}
use Rattle.state.specs.Reached.{history_behind}
use Rattle.state.proofs.Had.{kept-held, stands-held}
use Rattle.rounds.proofs.Slots.{enabled-none, enabled-all, force-in, enabled-next}
use Rattle.rounds.proofs.enabled.Goals as goal

pub loop-slot-init : goal.loop-slot-init
loop-slot-init c = enabled-none _ _

pub with_contests-more-requires : goal.with_contests-more-requires
with_contests-more-requires c =
    let p = c.args.progress.now in
    rw (c.passed-passed.ensures.board, c.passed-passed.ensures.count)
    (force-in (kept-held p.reached) (stands-held p.reached) c.loop-slot.slot-index _ c.loop-slot-test.true refl)

pub loop-slot-preserved : goal.loop-slot-preserved
loop-slot-preserved c =
    let p = c.args.progress.now in
    enabled-next (kept-held p.reached) (stands-held p.reached) c.loop-slot.slot-index _ c.loop-slot-test.true
    refl c.args.time c.loop-slot.contests c.with_contests-more.result c.loop-slot.invariant
    (rw (c.passed-passed.ensures.board, c.passed-passed.ensures.count) at c.with_contests-more.ensures)

pub returns : goal.returns
returns c =
    enabled-all c.args.time (history_behind c.args.progress.now) c.loop-slot.slot-index c.loop-slot.contests c.loop-slot.auto.slot-index-end c.loop-slot-test.false c.loop-slot.invariant
