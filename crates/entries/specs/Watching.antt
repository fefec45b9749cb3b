-- Holding a watcher's notes against a board: the outcome of what the caller passed, and what the notes say. Paper: request (vi). Assumes
-- nothing.
use Rattle.std.specs.Prelude.{List, ℕ, Result, Ok, Err, length}
use Rattle.model.specs.Audit.{Outcome}
use Rattle.watch.specs.Notes.{Agreement, not_held, notes_audit, agreement}
use Rattle.notes.specs.Holding.{agreement_of}
use Rattle.model.specs.Report as model
use Rattle.refusal.specs.declared.Refused.{Refused}
use Rattle.report.specs.Reported.{reported}
use Rattle.entries.specs.declared.watching.Held.{Held}
use Rattle.format.specs.Format.{format_of}
use Rattle.audit.specs.declared.Submission.{Submission}
use Rattle.audit.specs.Outcome.{Slice, MutSlice}

-- the outcome of a board with its verdicts and its roll, of notes, and of the two tables by their lengths
abbrev pub notes_outcome : {D E F : Type 0} → Submission → Slice D → MutSlice E → MutSlice F → Outcome
notes_outcome s notes index ballots =
    notes_audit (format_of s.board.now) s.board.now s.verdicts.now s.roll.now notes.entry.now
    (length index.entry.now) (length ballots.entry.now)

-- what notes say of a board with an outcome, in the board's format
abbrev pub agreement_with : {A : Type 0} → List ℕ → Slice A → Outcome → Agreement
agreement_with board notes o = agreement (format_of board) notes.entry.now o

-- the report of an answer, and what it says of the notes
abbrev pub held_report : Result Held Refused → model.Report
held_report (Ok h) = reported (Ok h.accepted)
held_report (Err r) = reported (Err r)

abbrev pub held_agreement : Result Held Refused → Agreement
held_agreement (Ok h) = agreement_of h.agreement
held_agreement (Err r) = not_held
