-- `is_open_under` meets its contract. Assumes nothing.
use borrow.Author.Tests.{eq-eqb}
use Rattle.index.specs.Passed.{history_of}
use Rattle.index.proofs.Had.{kept-had}
use Rattle.rounds.proofs.Round.{force-range, round_under, open-under, open_none}
use Rattle.rounds.proofs.is_open_under.Goals as goal

pub entry-requires : goal.entry-requires
entry-requires c = force-range (kept-had c.args.passed.now.kept) c.requires c.if-slot-ne0.true

pub is_open-requires : goal.is_open-requires
is_open-requires c = round_under (kept-had c.args.passed.now.kept) c.requires c.if-slot-ne0.true c.entry.ensures

pub returns-then-slot-ne0 : goal.returns-then-slot-ne0
returns-then-slot-ne0 c = open-under (kept-had c.args.passed.now.kept) c.requires c.if-slot-ne0.true c.entry.ensures c.args.time _ c.is_open.ensures

pub returns-else-slot-ne0 : goal.returns-else-slot-ne0
returns-else-slot-ne0 c = rw (eq-eqb _ 0 c.if-slot-ne0.false) (open_none c.args.time (history_of c.args.passed.now) c.args.slot c.if-slot-ne0.false)
