-- What the entries for other languages answer, and what they leave in the words lent to them. Assumes nothing.
use Rattle.std.specs.Prelude.{◌≡◌, Bool, cond, List, ℕ, leb, length}
use Rattle.std.specs.Borrow.{MutBor}
use Rattle.model.specs.Format.{Format}
use Rattle.model.specs.Audit.{Outcome}
use Rattle.model.specs.Report.{report_of, index_after, ballots_after}
use Rattle.model.specs.Comparing.{comparing_answer, later_index_after, later_ballots_after}
use Rattle.model.specs.Ancestry.{ancestry_answer, list_after}
use Rattle.model.specs.Receipts.{answers_after}
use Rattle.watch.specs.Notes.{agreement}
use Rattle.exporting.specs.Export.{export_outcome, export_length, text_after}
use Rattle.planning.specs.Plan.{plan}
use Rattle.format.specs.Format.{format_of}
use Rattle.audit.specs.declared.Submission.{Submission}
use Rattle.audit.specs.Outcome.{Slice, MutSlice, outcome_of}
use Rattle.entries.specs.Listing.{listing_outcome}
use Rattle.entries.specs.Answering.{receipts_outcome}
use Rattle.entries.specs.Watching.{notes_outcome}
use Rattle.answers.specs.Words.{overwritten, audit_size, answer_words, compare_size, comparison_words, ancestry_size, listing_words, notes_size, held_words, export_size, exported_words, plan_size, plan_words}

-- a slice that an entry writes: its words at entry and at exit
abbrev pub Buffer : Type 0
Buffer = MutSlice (MutBor (List ℕ))

-- what an audit is of, from the slices that an entry reads
abbrev pub lent : {A B C : Type 0} → Slice A → Slice B → Slice C → Submission
lent board verdicts roll = record { board = board.entry; verdicts = verdicts.entry; roll = roll.entry }

-- whether a buffer has room for an answer of so many words
abbrev pub has_room : ℕ → List ℕ → Bool
has_room size buffer = leb size (length buffer)

-- ---- audit

-- Of the board's format and the audit's outcome. With room for the answer: true, the words of the report over the first of the buffer, and
-- the tables of the outcome. Without: false, and every word as it was.
pub record AuditWritten (f : Format) (outcome : Outcome) (index ballots answer : List ℕ)
    (told : Bool) (index' ballots' answer' : List ℕ) : Type 0 where
  pub is : told ≡ has_room audit_size answer
  pub report : answer' ≡ cond (has_room audit_size answer) (overwritten (answer_words (report_of f outcome)) answer) answer
  pub index_rows : index' ≡ cond (has_room audit_size answer) (index_after outcome index) index
  pub ballot_rows : ballots' ≡ cond (has_room audit_size answer) (ballots_after outcome ballots) ballots

-- of what the caller passed
abbrev pub Audited : {A B C : Type 0} → Slice A → Slice B → Slice C → Buffer → Buffer → Buffer → Bool → Type 0
Audited board verdicts roll index ballots answer told =
    AuditWritten (format_of board.entry.now) (outcome_of (lent board verdicts roll) index ballots)
    index.entry.now ballots.entry.now answer.entry.now told
    index.exit.now ballots.exit.now answer.exit.now

-- ---- compare

-- Of the outcomes of both audits, at a main number. With room for the answer: true, its words, and all four tables as comparing leaves them.
-- Without: false, and every word as it was.
pub record ComparisonWritten (kept later : Outcome) (number : ℕ) (kept_index kept_ballots later_index later_ballots answer : List ℕ)
    (told : Bool) (kept_index' kept_ballots' later_index' later_ballots' answer' : List ℕ) : Type 0 where
  pub is : told ≡ has_room compare_size answer
  pub comparison : answer' ≡ cond (has_room compare_size answer) (overwritten (comparison_words (comparing_answer kept later number)) answer) answer
  pub kept_index_rows : kept_index' ≡ cond (has_room compare_size answer) (index_after kept kept_index) kept_index
  pub kept_ballot_rows : kept_ballots' ≡ cond (has_room compare_size answer) (ballots_after kept kept_ballots) kept_ballots
  pub later_index_rows : later_index' ≡ cond (has_room compare_size answer) (later_index_after kept later later_index) later_index
  pub later_ballot_rows : later_ballots' ≡ cond (has_room compare_size answer) (later_ballots_after kept later later_ballots) later_ballots

-- of what the caller passed: the kept board's, then the later one's
abbrev pub Compared : {A B C D E F : Type 0} → Slice A → Slice B → Slice C → Buffer → Buffer
    → Slice D → Slice E → Slice F → Buffer → Buffer → ℕ → Buffer → Bool → Type 0
Compared kept kept_verdicts kept_roll kept_index kept_ballots later later_verdicts later_roll later_index later_ballots number answer told =
    ComparisonWritten (outcome_of (lent kept kept_verdicts kept_roll) kept_index kept_ballots) (outcome_of (lent later later_verdicts later_roll) later_index later_ballots) number
    kept_index.entry.now kept_ballots.entry.now later_index.entry.now later_ballots.entry.now answer.entry.now told
    kept_index.exit.now kept_ballots.exit.now later_index.exit.now later_ballots.exit.now answer.exit.now

-- ---- ancestry

-- Of the audit's outcome, at an item number. With room for the answer: true, its words, and the tables and the list as listing leaves them.
-- Without: false, and every word as it was.
pub record ListingWritten (outcome : Outcome) (number : ℕ) (index ballots list answer : List ℕ)
    (told : Bool) (index' ballots' list' answer' : List ℕ) : Type 0 where
  pub is : told ≡ has_room ancestry_size answer
  pub listing : answer' ≡ cond (has_room ancestry_size answer) (overwritten (listing_words (ancestry_answer outcome number)) answer) answer
  pub index_rows : index' ≡ cond (has_room ancestry_size answer) (index_after outcome index) index
  pub ballot_rows : ballots' ≡ cond (has_room ancestry_size answer) (ballots_after outcome ballots) ballots
  pub numbers : list' ≡ cond (has_room ancestry_size answer) (list_after outcome number list) list

-- of what the caller passed
abbrev pub Listed : {A B C : Type 0} → Slice A → Slice B → Slice C → ℕ → Buffer → Buffer → Buffer → Buffer → Bool → Type 0
Listed board verdicts roll number index ballots list answer told =
    ListingWritten (listing_outcome (lent board verdicts roll) index ballots list) number
    index.entry.now ballots.entry.now list.entry.now answer.entry.now told
    index.exit.now ballots.exit.now list.exit.now answer.exit.now

-- ---- receipts

-- Of the board's format, the receipts and the outcome: what an audit with that outcome writes, and with room for the report the answers as
-- answering leaves them. Without: every word as it was.
pub record AnswersWritten (f : Format) (receipts : List ℕ) (outcome : Outcome) (index ballots answers answer : List ℕ)
    (told : Bool) (index' ballots' answers' answer' : List ℕ) : Type 0 where
  pub audited : AuditWritten f outcome index ballots answer told index' ballots' answer'
  pub numbers : answers' ≡ cond (has_room audit_size answer) (answers_after f receipts outcome answers) answers

-- of what the caller passed
abbrev pub Answered : {A B C D : Type 0} → Slice A → Slice B → Slice C → Slice D → Buffer → Buffer → Buffer → Buffer → Bool → Type 0
Answered board verdicts roll receipts index ballots answers answer told =
    AnswersWritten (format_of board.entry.now) receipts.entry.now (receipts_outcome (lent board verdicts roll) receipts index ballots answers)
    index.entry.now ballots.entry.now answers.entry.now answer.entry.now told
    index.exit.now ballots.exit.now answers.exit.now answer.exit.now

-- ---- notes

-- Of the board's format, the notes and the outcome. With room for the answer: true, the words of the report and of what the notes say over
-- the first of the buffer, and the tables of the outcome. Without: false, and every word as it was.
pub record HeldWritten (f : Format) (notes : List ℕ) (outcome : Outcome) (index ballots answer : List ℕ)
    (told : Bool) (index' ballots' answer' : List ℕ) : Type 0 where
  pub is : told ≡ has_room notes_size answer
  pub words : answer'
      ≡ cond (has_room notes_size answer) (overwritten (held_words (report_of f outcome) (agreement f notes outcome)) answer) answer
  pub index_rows : index' ≡ cond (has_room notes_size answer) (index_after outcome index) index
  pub ballot_rows : ballots' ≡ cond (has_room notes_size answer) (ballots_after outcome ballots) ballots

-- of what the caller passed
abbrev pub Held : {A B C D : Type 0} → Slice A → Slice B → Slice C → Slice D → Buffer → Buffer → Buffer → Bool → Type 0
Held board verdicts roll notes index ballots answer told =
    HeldWritten (format_of board.entry.now) notes.entry.now (notes_outcome (lent board verdicts roll) notes index ballots)
    index.entry.now ballots.entry.now answer.entry.now told
    index.exit.now ballots.exit.now answer.exit.now

-- ---- export

-- Of the board's format and the audit's outcome: with room for the answer, the words of the report and of the number of bytes over the first of
-- the buffer, the tables of the outcome, and the text buffer as exporting leaves it. Without: false, and every word and byte as it was.
pub record ExportWritten (f : Format) (outcome : Outcome) (index ballots text answer : List ℕ)
    (told : Bool) (index' ballots' text' answer' : List ℕ) : Type 0 where
  pub is : told ≡ has_room export_size answer
  pub words : let exporting = export_outcome (length text) outcome in
      answer' ≡ cond (has_room export_size answer) (overwritten (exported_words (report_of f exporting) (export_length exporting)) answer) answer
  pub index_rows : index' ≡ cond (has_room export_size answer) (index_after outcome index) index
  pub ballot_rows : ballots' ≡ cond (has_room export_size answer) (ballots_after outcome ballots) ballots
  pub bytes : text' ≡ cond (has_room export_size answer) (text_after (export_outcome (length text) outcome) text) text

-- of what the caller passed
abbrev pub Exported : {A B C : Type 0} → Slice A → Slice B → Slice C → Buffer → Buffer → Buffer → Buffer → Bool → Type 0
Exported board verdicts roll index ballots text answer told =
    ExportWritten (format_of board.entry.now) (outcome_of (lent board verdicts roll) index ballots)
    index.entry.now ballots.entry.now text.entry.now answer.entry.now told
    index.exit.now ballots.exit.now text.exit.now answer.exit.now

-- ---- plan

-- Of the board. With room for the answer: true, and the words of the plan over the first of the buffer. Without: false, and every word as it
-- was.
pub record PlanWritten (board answer : List ℕ) (told : Bool) (answer' : List ℕ) : Type 0 where
  pub is : told ≡ has_room plan_size answer
  pub words : answer' ≡ cond (has_room plan_size answer) (overwritten (plan_words (plan board)) answer) answer

-- of what the caller passed
abbrev pub Planned : {A : Type 0} → Slice A → Buffer → Bool → Type 0
Planned board answer told = PlanWritten board.entry.now answer.entry.now told answer.exit.now
