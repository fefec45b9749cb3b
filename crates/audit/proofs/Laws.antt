-- What a report tells, for the entries that audit a board first. Acceptance: the board is sound, its history is that of its first items,
-- and the tables hold their rows. A refusal: its number, and the items passed. Paper: "Refusals and their order"; demand 2. Assumes nothing.
use Prim.Native.Nat.{ℕ, ◌+◌, ◌≤◌}
use native.Mathlib.Omega.{arith}
use mathlib.Core.Path.{◌≡◌, refl, sym, ap, ◌∙◌}
use mathlib.Core.List.{List, [], ◌∷◌}
use lib.ListN.{length, take, length-append}
use lib.Seq.{take_at}
use Rattle.model.specs.Lists.{count}
use Rattle.model.specs.Words.{closing_word}
use Rattle.model.specs.History.{History, place_of, end_address, main}
use Rattle.model.specs.Counted.{counted, total_weight}
use Rattle.model.specs.Audit.{Outcome, unread, refused, accepted, index_need, ballot_need}
use Rattle.model.specs.Report as model
use Rattle.model.specs.Format.{longest_address}
use Rattle.model.specs.Report.{report_of, table_after, index_rows, ballot_rows, filled}
use Rattle.model.specs.Sound.{Sound}
use Rattle.model.proofs.Acceptance.{accepted↔sound, unread-some, refused-some}
use Rattle.model.proofs.Unchecked.{length-history, passed-history, sound-history}
use Rattle.model.proofs.Report.{tables-keep}
use Rattle.refusal.specs.Number.{number_of}
use Rattle.format.specs.Format.{format_of}
use Rattle.index.specs.Kept.{before, Kept}
use Rattle.index.proofs.Items.{passed-anyone}
use Rattle.tally.specs.Tallied.{Tallied}
use Rattle.refusal.proofs.Laws.{number-some}
use Rattle.std.specs.Prelude.{Ok, Err}
use Rattle.refusal.specs.declared.Refused.{Refused}
use Rattle.report.specs.declared.Accepted.{Accepted}
use Rattle.report.specs.Reported.{reported}
use Rattle.audit.specs.declared.Submission.{Submission}
use Rattle.audit.proofs.Whole.{Report, Audited, outcome, refused-number, accepted-number}

-- a sound board, and a table with the rows of its items
sound-kept : {board verdicts roll : List ℕ} {h : History} → Sound (format_of board) board verdicts roll h → (i : List ℕ) → i ≡ filled (length i) (index_rows h 0 h)
    → index_need ≤ length i → Kept board i (length h)
sound-kept {board} {verdicts} {h} s i rows room =
    let closing : List ℕ = closing_word (length h) ∷ [] in
    let same : before board (length h) ≡ h = sym (sound-history s) in
    let place : place_of (format_of board) board (length h) ≡ length s.words =
    ap (λ (ws : List ℕ). place_of (format_of board) ws (length h)) s.closed ∙ (passed-history s.passed closing).1 in
    let long : length board ≡ length s.words + 1 = rw s.closed (length-append s.words closing) in
    let words : take (length s.words) board ≡ s.words = rw s.closed (take_at s.words closing (length s.words) refl) in
    record {
      rows = rw same rows;
      verdicts = verdicts;
      passed = rw (place, words, same) (passed-anyone s.passed);
      within = omega arith;
      few = s.few;
      words = s.short;
      room = room;
    }

-- a refusal n after k items: 1's word limit and 2 come with no items passed and change no table, and every later one leaves both all zero
pub data RefusedAs (o : Outcome) (n k : ℕ) : Type 0 where
  unchanged : o ≡ unread n → k ≡ 0 → RefusedAs o n k
  cleared : o ≡ refused n k → RefusedAs o n k

module _ (submission : Submission) (index ballots : List ℕ) (r : Report) {i b : List ℕ} (a : Audited submission index ballots r i b) where
  abbrev board : List ℕ
  board = submission.board.now

  abbrev verdicts : List ℕ
  verdicts = submission.verdicts.now

  abbrev roll : List ℕ
  roll = submission.roll.now

  -- ---- acceptance

  module _ {got : Accepted} (answer : r ≡ Ok got) where
    accepted-is : (o : Outcome) → outcome submission index ballots ≡ o → o ≡ accepted (before board got.items)
    unfolding report_of
    accepted-is (unread m) e =
        let number = sym (accepted-number r answer) ∙ ap (λ (t : model.Report). t.number) (rw e at a.0) in
        let some = unread-some (format_of board) board verdicts roll (length index) (length ballots) m e in
        absurd (omega arith)
    accepted-is (refused m k) e =
        let number = sym (accepted-number r answer) ∙ ap (λ (t : model.Report). t.number) (rw e at a.0) in
        let some = refused-some (format_of board) board verdicts roll (length index) (length ballots) m k e in
        absurd (omega arith)
    accepted-is (accepted h) e =
        let sound : Sound (format_of board) board verdicts roll h = ((accepted↔sound (format_of board) board verdicts roll (length index) (length ballots) h).0 e).0 in
        let same : got.items ≡ length h =
        sym (ap (λ (x : Report). (reported x).items) answer) ∙ ap (λ (t : model.Report). t.items) (rw e at a.0) in
        ap accepted (sound-history sound ∙ ap (before board) (sym same))

    pub accepted-outcome : outcome submission index ballots ≡ accepted (before board got.items)
    accepted-outcome = accepted-is (outcome submission index ballots) refl

    -- "a board is accepted if and only if it is sound", and the tables are long enough
    accepted-all : Sound (format_of board) board verdicts roll (before board got.items) × (index_need ≤ length index) × (ballot_need ≤ length ballots)
    accepted-all = (accepted↔sound (format_of board) board verdicts roll (length index) (length ballots) (before board got.items)).0 accepted-outcome

    pub accepted-sound : Sound (format_of board) board verdicts roll (before board got.items)
    accepted-sound = accepted-all.0

    -- so do its index rows, and its ballot rows
    length-after : (length i ≡ length index) × (length b ≡ length ballots)
    length-after =
        let keep = tables-keep (format_of board) board verdicts roll index ballots in
        (ap length a.1.0 ∙ keep.0, ap length a.1.1 ∙ keep.1)

    items-are : length (before board got.items) ≡ got.items
    items-are = length-history (format_of board) board got.items

    pub accepted-kept : Kept board i got.items
    unfolding table_after
    accepted-kept =
        let rows : i ≡ filled (length index) (index_rows (before board got.items) 0 (before board got.items)) = rw accepted-outcome at a.1.0 in
        let long = length-after.0 in
        rw items-are at (sound-kept accepted-sound i (rw (← long) at rows) (rw long accepted-all.1))

    pub accepted-tallied : Tallied board b got.items
    unfolding table_after
    accepted-tallied =
        let rows : b ≡ filled (length ballots) (ballot_rows (counted (before board got.items))) = rw accepted-outcome at a.1.1 in
        let long = length-after.1 in
        record { rows = rw (← long) at rows; room = rw long accepted-all.2 }

    -- what is told of the main items and of the counted ballots
    told : reported r ≡ report_of (format_of board) (accepted (before board got.items))
    told = rw accepted-outcome at a.0

    pub accepted-mains : got.mains ≡ count main (before board got.items)
    unfolding report_of
    accepted-mains = sym (ap (λ (x : Report). (reported x).mains) answer) ∙ ap (λ (t : model.Report). t.mains) told

    pub accepted-end : got.end ≡ filled longest_address (end_address (format_of board) (before board got.items))
    unfolding report_of
    accepted-end = sym (ap (λ (x : Report). (reported x).end) answer) ∙ ap (λ (t : model.Report). t.end) told

    pub accepted-ballots : got.ballots ≡ length (counted (before board got.items))
    unfolding report_of
    accepted-ballots = sym (ap (λ (x : Report). (reported x).ballots) answer) ∙ ap (λ (t : model.Report). t.ballots) told

    pub accepted-weight : got.weight ≡ total_weight (counted (before board got.items))
    unfolding report_of
    accepted-weight = sym (ap (λ (x : Report). (reported x).weight) answer) ∙ ap (λ (t : model.Report). t.weight) told

  -- ---- a refusal

  module _ {x : Refused} (answer : r ≡ Err x) where
    refused-is : (o : Outcome) → outcome submission index ballots ≡ o → RefusedAs o (number_of x.refusal) x.items
    unfolding report_of
    refused-is (unread m) e =
        let number = sym (refused-number r answer) ∙ ap (λ (t : model.Report). t.number) (rw e at a.0) in
        let none = sym (ap (λ (y : Report). (reported y).items) answer) ∙ ap (λ (t : model.Report). t.items) (rw e at a.0) in
        unchanged (ap unread (sym number)) none
    refused-is (refused m j) e =
        let number = sym (refused-number r answer) ∙ ap (λ (t : model.Report). t.number) (rw e at a.0) in
        let passed = sym (ap (λ (y : Report). (reported y).items) answer) ∙ ap (λ (t : model.Report). t.items) (rw e at a.0) in
        cleared (rw (number, passed))
    refused-is (accepted h) e =
        let number = sym (refused-number r answer) ∙ ap (λ (t : model.Report). t.number) (rw e at a.0) in
        absurd (omega (arith, number-some x.refusal))

    pub refused-outcome : RefusedAs (outcome submission index ballots) (number_of x.refusal) x.items
    refused-outcome = refused-is (outcome submission index ballots) refl
