-- What the code's row of the table of item types stands for. Paper: "Item types". Assumes nothing.
use Rattle.std.specs.Prelude.{ℕ, Some, None}
use Rattle.std.specs.Prelude as code
use Rattle.std.proofs.Math.Option.{Option, none, some}
use Rattle.model.specs.Types as types
use Rattle.format.specs.declared.table.Writer.{Writer}
use Rattle.format.specs.declared.table.Writer.TheVariants.{Administrator, BallotBox, Authorizer, Voter, Verifier}
use Rattle.format.specs.declared.table.ParentRule.{ParentRule}
use Rattle.format.specs.declared.table.ParentRule.TheVariants.{Zeros, LatestConfig, OfType}
use Rattle.format.specs.declared.table.Counts.{Counts}
use Rattle.format.specs.declared.table.Counts.TheVariants.{FromTo, SetAndEach}
use Rattle.format.specs.declared.table.Row.{Row}

abbrev pub writer_of : Writer → types.Writer
writer_of Administrator = types.administrator
writer_of BallotBox = types.ballot_box
writer_of Authorizer = types.authorizer
writer_of Voter = types.voter
writer_of Verifier = types.verifier

abbrev pub parent_rule_of : ParentRule → types.ParentRule
parent_rule_of Zeros = types.zeros
parent_rule_of LatestConfig = types.latest_config
parent_rule_of (OfType c) = types.of_type c

abbrev pub counts_of : Counts → types.Counts
counts_of (FromTo lo hi) = types.from◌to◌ lo hi
counts_of (SetAndEach w s) = types.set_and_each w s

-- the row of a type: its kind and code are those that it was asked for
abbrev pub row_of : ℕ → ℕ → code.Option Row → Option types.Row
row_of kind code None = none
row_of kind code (Some r) = some (record { code = code; kind = kind; writer = writer_of r.writer; parent = parent_rule_of r.parent; counts = counts_of r.counts })
