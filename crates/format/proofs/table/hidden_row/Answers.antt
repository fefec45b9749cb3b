-- `table::hidden_row` meets its contract: at each code the model's table is computed. Assumes nothing.
use borrow.Author.Tests.{eq-eqb, ne_eqb, le-leb, lt-leb}
use Rattle.model.specs.Lists.{if◌then◌otherwise◌}
use Rattle.model.specs.Types.{row_in, table}
use Rattle.format.proofs.table.hidden_row.Goals as goal

ruleset tests = (eq-eqb, ne_eqb, le-leb, lt-leb)

pub returns-in-48 : goal.returns-in-48
unfolding row_in table if◌then◌otherwise◌
returns-in-48 c f = rw c.in-48.is

pub returns-in-49 : goal.returns-in-49
unfolding row_in table if◌then◌otherwise◌
returns-in-49 c f = rw c.in-49.is

pub returns-in-50 : goal.returns-in-50
unfolding row_in table if◌then◌otherwise◌
returns-in-50 c f = rw c.in-50.is

pub returns-in-51 : goal.returns-in-51
unfolding row_in table if◌then◌otherwise◌
returns-in-51 c f = rw c.in-51.is

pub returns-in_default : goal.returns-in_default
unfolding row_in table if◌then◌otherwise◌
returns-in_default c f = search tests
