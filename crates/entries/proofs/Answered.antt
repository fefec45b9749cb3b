-- What answering receipts answers, and what the buffers hold, by its own checks and by what the audit answered. Assumes nothing.
use Prim.Native.Nat.{ℕ, ◌≤◌, ◌<◌}
use native.Mathlib.Omega.{arith}
use mathlib.Core.Path.{◌≡◌, sym, ◌∙◌}
use mathlib.Core.Bool.{Bool, true, false, not}
use mathlib.Core.List.{List}
use lib.ListN.{length}
use lib.Dec.{T, leb, le→leb}
use lib.Arith.{lt→nleb}
use Rattle.model.specs.Refusal.{short_table, bad_receipts}
use Rattle.model.specs.Format.{Format}
use Rattle.model.specs.History.{History}
use Rattle.model.specs.Audit.{Outcome, unread, refused, accepted, audit}
use Rattle.model.specs.Report.{report_of, table_after, index_after, ballots_after}
use Rattle.model.specs.Above.{buffer_after}
use Rattle.model.specs.Receipts.{receipt_limit, receipt_size, receipt_count, is_bad_receipts, receipts_audit, answers_after}
use Rattle.model.proofs.Tests.{passes, not-not}
use Rattle.model.proofs.Above.{checked-none, checked-passes, checked-fails, good-parts}
use Rattle.format.specs.Format.{format_of}
use Rattle.format.proofs.Traits.{sizes}
use Rattle.audit.proofs.Whole.{Report}
use Rattle.report.specs.Reported.{reported}
use Rattle.receipts.specs.Answering.{Answerable}

module _ (board receipts index ballots answers : List ℕ) where
  -- the answer and the buffers after it, as an outcome leaves them
  abbrev pub Leaves : Outcome → Report → (index' ballots' answers' : List ℕ) → Type 0
  Leaves o r index' ballots' answers' =
      (reported r ≡ report_of (format_of board) o)
      × ((index' ≡ index_after o index) × ((ballots' ≡ ballots_after o ballots) × (answers' ≡ answers_after (format_of board) receipts o answers)))

  -- before the audit, every buffer stays as it was
  pub leaves_all : (o : Outcome) {n : ℕ} → o ≡ unread n → (r : Report) → reported r ≡ report_of (format_of board) (refused n 0) → Leaves o r index ballots answers
  unfolding report_of table_after buffer_after
  leaves_all o e r told = (rw e told, (rw e, (rw e, rw e)))

  -- what one outcome leaves, an equal one leaves
  pub leaves-same : {o o' : Outcome} → o ≡ o' → (r : Report) {index' ballots' answers' : List ℕ} → Leaves o' r index' ballots' answers'
      → Leaves o r index' ballots' answers'
  leaves-same e r l = rw e l

-- the answers to the receipts of a board that the audit accepted
pub answers-accepted : {o : Outcome} {h : History} (f : Format) (receipts answers : List ℕ) → o ≡ accepted h → {after : List ℕ}
    → after ≡ answers_after f receipts (accepted h) answers → after ≡ answers_after f receipts o answers
answers-accepted f receipts answers accepts e = e ∙ rw accepts

-- ---- the checks before the audit

module _ (board verdicts roll receipts index ballots answers : List ℕ) where
  abbrev outcome : Outcome
  outcome = receipts_audit (format_of board) board verdicts roll receipts (length index) (length ballots) (length answers)

  abbrev audited : Outcome
  audited = audit (format_of board) board verdicts roll (length index) (length ballots)

  abbrev is_bad : Bool
  is_bad = is_bad_receipts (format_of board) receipts

  module _ {r : Bool} (told : r ≡ is_bad) where
    pub bad : r ≡ true → outcome ≡ unread bad_receipts
    unfolding receipts_audit
    bad q = checked-fails audited 21 (not is_bad) _ ((not-not is_bad).1 (passes (sym told ∙ q)))

    module _ (q : r ≡ false) {total : ℕ} (counted : total ≡ receipt_count (format_of board) receipts) where
      good : T (not is_bad)
      good = rw (← told, q) tt

      pub short : length answers < total → outcome ≡ unread short_table
      unfolding receipts_audit
      short l =
          checked-passes audited 21 (not is_bad) _ good
          ∙ checked-fails audited 1 (leb (receipt_count (format_of board) receipts) (length answers)) _ (lt→nleb _ _ (rw counted at l))

      pub late : total ≤ length answers → outcome ≡ audited
      unfolding receipts_audit
      late l =
          checked-passes audited 21 (not is_bad) _ good
          ∙ checked-passes audited 1 (leb (receipt_count (format_of board) receipts) (length answers)) _ (le→leb _ _ (rw counted at l))
          ∙ checked-none audited

      pub answerable : total ≤ length answers → Answerable board receipts answers
      answerable l =
          let b = sizes board in
          let (all, few) = good-parts (receipt_size (format_of board)) (omega arith) receipts receipt_limit good in
          record { good = record { whole = all; few = few }; room = rw counted at l }
