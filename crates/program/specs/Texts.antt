-- What is printed for the words or the bytes at hand. Paper: "The auditing program". Assumes nothing.
use Rattle.std.specs.Prelude.{ℕ, List}
use Rattle.model.specs.Audit.{audit, index_need, ballot_need}
use Rattle.model.specs.Program.{from_bytes, program_outcome, text_of}
use Rattle.format.specs.Format.{format_of}
use Rattle.text.specs.declared.size.Sizes.{Sizes}

-- for the words of a board, its verdicts and its roll: the audit's outcome, with tables as long as they need to be
abbrev pub audit_text : (board verdicts roll : List ℕ) → List ℕ
audit_text board verdicts roll = text_of (audit (format_of board) board verdicts roll index_need ballot_need)

-- for three files: their sizes, and the bytes that are kept of them
abbrev pub files_text : Sizes → (board verdicts roll : List ℕ) → List ℕ
files_text sizes board verdicts roll =
    text_of (program_outcome (format_of (from_bytes board)) sizes.board sizes.verdicts sizes.roll
    (from_bytes board) (from_bytes verdicts) (from_bytes roll))
