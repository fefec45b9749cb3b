-- `table::row_of` meets its contract. Assumes nothing.
use borrow.Author.Tests.{eq-eqb, ne_eqb, le-leb, lt-leb}
use Rattle.model.specs.Lists.{if◌then◌otherwise◌}
use Rattle.model.specs.Types.{row_in, table}
use Rattle.format.proofs.table.row_of.Goals as goal

ruleset tests = (eq-eqb, ne_eqb, le-leb, lt-leb)

pub returns-then-kind-eq-MAIN : goal.returns-then-kind-eq-MAIN
returns-then-kind-eq-MAIN c = rw c.if-kind-eq-MAIN.true c.main_row.ensures

pub returns-then-kind-eq-HIDDEN : goal.returns-then-kind-eq-HIDDEN
returns-then-kind-eq-HIDDEN c = rw c.if-kind-eq-HIDDEN.true (c.hidden_row.ensures _)

pub returns : goal.returns
unfolding row_in table if◌then◌otherwise◌
returns c = search tests
