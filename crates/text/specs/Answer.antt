-- The whole text of an answer, from the numbers of a report and the ballot table. Paper: "The auditing program". Assumes nothing.
use Rattle.std.specs.Prelude.{ℕ, ◌*◌, List, ◌++◌, take, eqb}
use Rattle.model.specs.Lists.{if◌then◌otherwise◌}
use Rattle.model.specs.Refusal.{no_fault}
use Rattle.model.specs.Audit.{ballot_row}
use Rattle.model.specs.Report.{Report}
use Rattle.model.specs.Program.{refused_line, accepted_line, row_lines}

-- a line for the board, then a line for each row of the first `ballots` rows of the ballot table
unfoldable pub accepted_text : ℕ → ℕ → ℕ → ℕ → List ℕ → List ℕ
accepted_text items mains ballots weight table = accepted_line items mains ballots weight ++ row_lines (take (ballot_row * ballots) table)

-- number 0 is acceptance
unfoldable pub text_from : ℕ → ℕ → ℕ → ℕ → ℕ → List ℕ → List ℕ
unfolding if◌then◌otherwise◌
text_from number items mains ballots weight table =
    if eqb number no_fault then accepted_text items mains ballots weight table otherwise refused_line number items

-- of a report
abbrev pub report_text : Report → List ℕ → List ℕ
report_text r = text_from r.number r.items r.mains r.ballots r.weight
