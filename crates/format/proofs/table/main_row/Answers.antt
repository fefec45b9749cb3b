-- `table::main_row` meets its contract: at each code the model's table is computed. Assumes nothing.
use native.Mathlib.Omega.{arith}
use borrow.Author.Tests.{eq-eqb, ne_eqb, le-leb, lt-leb}
use Rattle.model.specs.Lists.{if◌then◌otherwise◌}
use Rattle.model.specs.Types.{row_in, table}
use Rattle.format.proofs.Traits.{sizes, knows}
use Rattle.format.proofs.table.main_row.Goals as goal

ruleset tests = (eq-eqb, ne_eqb, le-leb, lt-leb)

pub overflow_add-round : goal.overflow_add-round
overflow_add-round c = let s = sizes c.args.board.now in let k = knows c.of-format.ensures in omega arith

pub overflow_add-session : goal.overflow_add-session
overflow_add-session c = let s = sizes c.args.board.now in let k = knows c.of-format.ensures in omega arith

pub returns-in-1 : goal.returns-in-1
unfolding row_in table if◌then◌otherwise◌
returns-in-1 c = rw c.in-1.is

pub returns-in-2 : goal.returns-in-2
unfolding row_in table if◌then◌otherwise◌
returns-in-2 c = rw c.in-2.is

pub returns-in-3 : goal.returns-in-3
unfolding row_in table if◌then◌otherwise◌
returns-in-3 c = rw c.in-3.is

pub returns-in-4 : goal.returns-in-4
unfolding row_in table if◌then◌otherwise◌
returns-in-4 c = rw c.in-4.is

pub returns-in-5 : goal.returns-in-5
unfolding row_in table if◌then◌otherwise◌
returns-in-5 c = rw c.in-5.is

pub returns-in-6 : goal.returns-in-6
unfolding row_in table if◌then◌otherwise◌
returns-in-6 c = rw (c.in-6.is, (knows c.of-format.ensures).sets)

pub returns-in-16 : goal.returns-in-16
unfolding row_in table if◌then◌otherwise◌
returns-in-16 c = rw (c.in-16.is, (knows c.of-format.ensures).sets)

pub returns-in-17 : goal.returns-in-17
unfolding row_in table if◌then◌otherwise◌
returns-in-17 c = rw (c.in-17.is, (knows c.of-format.ensures).commitment)

pub returns-in-18 : goal.returns-in-18
unfolding row_in table if◌then◌otherwise◌
returns-in-18 c = rw (c.in-18.is, (knows c.of-format.ensures).commitment)

pub returns-in-19 : goal.returns-in-19
unfolding row_in table if◌then◌otherwise◌
returns-in-19 c = let k = knows c.of-format.ensures in rw (c.in-19.is, k.sets, k.cryptogram)

pub returns-in-20 : goal.returns-in-20
unfolding row_in table if◌then◌otherwise◌
returns-in-20 c = rw c.in-20.is

pub returns-in-21 : goal.returns-in-21
unfolding row_in table if◌then◌otherwise◌
returns-in-21 c = rw c.in-21.is

pub returns-in-32 : goal.returns-in-32
unfolding row_in table if◌then◌otherwise◌
returns-in-32 c = rw c.in-32.is

pub returns-in-33 : goal.returns-in-33
unfolding row_in table if◌then◌otherwise◌
returns-in-33 c = rw c.in-33.is

pub returns-in-34 : goal.returns-in-34
unfolding row_in table if◌then◌otherwise◌
returns-in-34 c = rw c.in-34.is

pub returns-in_default : goal.returns-in_default
unfolding row_in table if◌then◌otherwise◌
returns-in_default c = search tests
