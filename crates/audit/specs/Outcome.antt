-- The outcome of the audit of what a caller passed, so that a contract names it in a word. Assumes nothing.
use Rattle.std.specs.Prelude.{ℕ, List, [], length}
use Rattle.std.specs.Borrow.{Bor, MutBor}
use denote.Triple.Both.{Both}
use Rattle.model.specs.Roll.{on_roll}
use Rattle.model.specs.Audit.{Outcome, audit, items, item_limit}
use Rattle.format.specs.Format.{format_of}
use Rattle.audit.specs.declared.Submission.{Submission}

-- a slice of words that a function reads, as a contract has it: at entry, and as X at exit
abbrev pub Slice : Type 0 → Type 0
Slice X = Both (Bor (List ℕ)) X

-- one that it writes
abbrev pub MutSlice : Type 0 → Type 0
MutSlice X = Both (MutBor (List ℕ)) X

-- a board with its verdicts and its roll, and the index table and the ballot table by their lengths
abbrev pub outcome_of : {A B : Type 0} → Submission → MutSlice A → MutSlice B → Outcome
outcome_of s index ballots =
    audit (format_of s.board.now) s.board.now s.verdicts.now s.roll.now (length index.entry.now) (length ballots.entry.now)

-- what reading its items gives, from the first one on
abbrev pub items_outcome : (board verdicts roll : List ℕ) → Outcome
items_outcome board verdicts roll = items (format_of board) (on_roll roll) board verdicts item_limit [] 0
