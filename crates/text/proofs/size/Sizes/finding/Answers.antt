-- `text::size::Sizes::finding` meets its contract: the code makes the tests of the definition, in its order. Assumes nothing.
use borrow.Author.Tests.{eq-eqb, ne_eqb, lt-ltb, le-ltb}
use Rattle.model.specs.Lists.{if◌then◌otherwise◌}
use Rattle.model.specs.Program.{size_fault}
use Rattle.text.proofs.size.Sizes.finding.Goals as goal
use Rattle.text.proofs.size.Sizes.finding.Goals.{then-self-ne0-via-then-self-ne0, then-self-ne0-via-else-self-ne0+then-self-ne0-2, then-self-ne0-via-else-self-ne0+else-self-ne0-2+then-self-ne0-3}

ruleset tests = (eq-eqb, ne_eqb, lt-ltb, le-ltb)

pub returns-then-self-ne0 : goal.returns-then-self-ne0
unfolding size_fault if◌then◌otherwise◌
returns-then-self-ne0 c =
    elim c.then-self-ne0.branch [
      | then-self-ne0-via-then-self-ne0 w ↦ search tests
      | then-self-ne0-via-else-self-ne0+then-self-ne0-2 w ↦ search tests
      | then-self-ne0-via-else-self-ne0+else-self-ne0-2+then-self-ne0-3 w ↦ search tests
    ]

pub returns-then-self-gt-BOARD : goal.returns-then-self-gt-BOARD
unfolding size_fault if◌then◌otherwise◌
returns-then-self-gt-BOARD c = search tests

pub returns : goal.returns
unfolding size_fault if◌then◌otherwise◌
returns c = search tests
