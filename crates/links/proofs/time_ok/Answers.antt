-- `time_ok` meets its contract: without an earlier item every time will do. Assumes nothing.
use mathlib.Core.Path.{sym, ◌∙◌}
use Rattle.state.proofs.At.{at_places}
use Rattle.state.proofs.Had.{at-had}
use Rattle.index.proofs.Reading.{known-within}
use Rattle.links.proofs.Checks.{earlier-in, time-none, time-later}
use native.Mathlib.Omega.{arith}
use Rattle.links.proofs.time_ok.Goals as goal

pub returns-then-number-eq0 : goal.returns-then-number-eq0
returns-then-number-eq0 c = time-none (at-had c.args.next.now.at_item) (sym c.earlier-number.ensures ∙ c.if-number-eq0.true)

pub entry-e-requires : goal.entry-e-requires
entry-e-requires c = (omega arith, rw c.earlier-number.ensures (earlier-in (at-had c.args.next.now.at_item)))

pub pair_at-requires : goal.pair_at-requires
pair_at-requires c = (known-within c.entry-e.ensures).time

pub pair_at-requires-2 : goal.pair_at-requires-2
pair_at-requires-2 c = let p = at_places (at-had c.args.next.now.at_item) in omega arith

pub returns : goal.returns
returns c =
    let a = at-had c.args.next.now.at_item in
    let number = c.earlier-number in
    let e = c.entry-e in
    rw (c.pair_at.ensures, c.pair_at-2.ensures) (time-later a number.result number.ensures e.result e.ensures)
