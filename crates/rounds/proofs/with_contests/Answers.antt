-- `with_contests` meets its contract. Assumes nothing.
use mathlib.Core.Path.{ap, ◌∙◌}
use native.Mathlib.Omega.{arith}
use lib.Bits.{bit_or}
use lib.ListN.{get_or}
use Prim.Native.Nat.{ℕ}
use mathlib.Core.List.{List}
use Rattle.index.specs.Passed.{history_of}
use Rattle.index.proofs.Had.{kept-had}
use Rattle.rounds.proofs.Round.{force-range, round-places, round_under, contests-open, contests-shut, contests-none}
use Rattle.rounds.proofs.with_contests.Goals as goal

pub returns-then-slot-eq0 : goal.returns-then-slot-eq0
returns-then-slot-eq0 c i l = contests-none c.args.time (history_of c.args.passed.now) c.args.slot c.if-slot-eq0.true _ i

pub entry-e-requires : goal.entry-e-requires
entry-e-requires c = force-range (kept-had c.args.passed.now.kept) c.requires c.if-slot-eq0.false

pub is_open-requires : goal.is_open-requires
is_open-requires c = round_under (kept-had c.args.passed.now.kept) c.requires c.if-slot-eq0.false c.entry-e.ensures

pub returns-then-not-is_open : goal.returns-then-not-is_open
returns-then-not-is_open c i l =
    contests-shut (kept-had c.args.passed.now.kept) c.requires c.if-slot-eq0.false c.entry-e.ensures
    c.args.time _ c.is_open.ensures c.if-not-is_open.true _ i

pub overflow_add-item : goal.overflow_add-item
overflow_add-item c =
    let kept = kept-had c.args.passed.now.kept in
    let r = round-places (round_under kept c.requires c.if-slot-eq0.false c.entry-e.ensures) in record { fits = omega (arith, kept.words) }

pub overflow_sub-item : goal.overflow_sub-item
overflow_sub-item c =
    omega (arith, round-places (round_under (kept-had c.args.passed.now.kept) c.requires c.if-slot-eq0.false c.entry-e.ensures))

pub part-contests-requires : goal.part-contests-requires
part-contests-requires c =
    omega (arith, round-places (round_under (kept-had c.args.passed.now.kept) c.requires c.if-slot-eq0.false c.entry-e.ensures))

pub union-requires : goal.union-requires
union-requires c =
    omega (arith, round-places (round_under (kept-had c.args.passed.now.kept) c.requires c.if-slot-eq0.false c.entry-e.ensures))

pub returns : goal.returns
returns c i l =
    c.union.ensures i l
    ∙ ap (bit_or (get_or c.args.set i 0)) (ap (λ (w : List ℕ). get_or w i 0) c.part-contests.ensures.value
    ∙ contests-open (kept-had c.args.passed.now.kept) c.requires c.if-slot-eq0.false c.entry-e.ensures
    c.args.time _ c.is_open.ensures c.if-not-is_open.false i)
