-- Answering receipts: the outcome of what the caller passed, and what is left in the answers buffer. Paper: request (ii). Assumes nothing.
use Rattle.std.specs.Prelude.{ℕ, List, length}
use Rattle.model.specs.Audit.{Outcome}
use Rattle.model.specs.Receipts.{receipts_audit, answers_after}
use Rattle.format.specs.Format.{format_of}
use Rattle.audit.specs.declared.Submission.{Submission}
use Rattle.audit.specs.Outcome.{Slice, MutSlice}

-- the outcome of a board with its verdicts and its roll, of receipts, and of the two tables and the answers buffer by their lengths
abbrev pub receipts_outcome : {D E F G : Type 0} → Submission → Slice D → MutSlice E → MutSlice F → MutSlice G → Outcome
receipts_outcome s receipts index ballots answers =
    receipts_audit (format_of s.board.now) s.board.now s.verdicts.now s.roll.now receipts.entry.now
    (length index.entry.now) (length ballots.entry.now) (length answers.entry.now)

-- what an outcome leaves in an answers buffer, in the board's format
abbrev pub answers_left : {A : Type 0} → List ℕ → Slice A → Outcome → List ℕ → List ℕ
answers_left board receipts o = answers_after (format_of board) receipts.entry.now o
