-- `head::is_between` meets its contract. Assumes nothing.
use borrow.Author.Tests.{eq-eqb, ne_eqb, le-leb, lt-leb}
use Rattle.format.proofs.head.is_between.Goals as goal

ruleset tests = (eq-eqb, ne_eqb, le-leb, lt-leb)

pub returns-then-low-code : goal.returns-then-low-code
returns-then-low-code c = search tests

pub returns-else-low-code : goal.returns-else-low-code
returns-else-low-code c = search tests
