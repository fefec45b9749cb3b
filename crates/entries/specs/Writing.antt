-- Exporting a board: the outcome of what the caller passed. Paper: request (xi). Assumes nothing.
use Rattle.std.specs.Prelude.{ℕ, Result, Ok, Err, length}
use Rattle.model.specs.Audit.{Outcome}
use Rattle.exporting.specs.Export.{export_outcome}
use Rattle.model.specs.Report as model
use Rattle.refusal.specs.declared.Refused.{Refused}
use Rattle.report.specs.Reported.{reported}
use Rattle.entries.specs.declared.writing.Exported.{Exported}
use Rattle.audit.specs.declared.Submission.{Submission}
use Rattle.audit.specs.Outcome.{MutSlice, outcome_of}

-- the outcome of a board with its verdicts and its roll, of the two tables and of the text buffer by their lengths
abbrev pub writing_outcome : {D E F : Type 0} → Submission → MutSlice D → MutSlice E → MutSlice F → Outcome
writing_outcome s index ballots text = export_outcome (length text.entry.now) (outcome_of s index ballots)

-- the report of an answer, and how many bytes it says were written
abbrev pub exported_report : Result Exported Refused → model.Report
exported_report (Ok e) = reported (Ok e.accepted)
exported_report (Err r) = reported (Err r)

abbrev pub exported_bytes : Result Exported Refused → ℕ
exported_bytes (Ok e) = e.bytes
exported_bytes (Err r) = 0
