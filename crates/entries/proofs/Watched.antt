-- What holding notes answers, and what the tables hold, by its own check and by what the audit answered. Assumes nothing.
use Prim.Native.Nat.{ℕ}
use native.Mathlib.Omega.{arith}
use mathlib.Core.Path.{◌≡◌, sym, ap, ◌∙◌}
use mathlib.Core.Bool.{Bool, true, false, not}
use mathlib.Core.List.{List, []}
use lib.ListN.{length}
use lib.Dec.{T}
use Rattle.model.specs.Refusal.{bad_notes}
use Rattle.model.specs.Format.{Format}
use Rattle.model.specs.History.{History}
use Rattle.model.specs.Audit.{Outcome, unread, refused, accepted, audit}
use Rattle.model.specs.Report.{report_of, table_after, index_after, ballots_after}
use Rattle.watch.specs.Notes as model
use Rattle.watch.specs.Notes.{note_limit, note_size, not_held, held, is_bad_notes, notes_audit, agreement}
use Rattle.model.proofs.Tests.{passes, not-not}
use Rattle.model.proofs.Above.{checked-none, checked-passes, checked-fails, good-parts}
use Rattle.format.specs.Format.{format_of}
use Rattle.std.specs.Prelude.{Result, Err}
use Rattle.refusal.specs.declared.Refusal.TheVariants.{BadNotes}
use Rattle.refusal.specs.declared.Refused.{Refused}
use Rattle.report.specs.Reported.{reported}
use Rattle.audit.proofs.Laws.{RefusedAs, unchanged, cleared}
use Rattle.notes.specs.Holding.{Whole}
use Rattle.entries.specs.declared.watching.Held.{Held}
use Rattle.entries.specs.Watching.{held_report, held_agreement}

module _ (board notes index ballots : List ℕ) where
  -- the answer and the tables after it, as an outcome leaves them
  abbrev pub Leaves : Outcome → Result Held Refused → (index' ballots' : List ℕ) → Type 0
  Leaves o r index' ballots' =
      (held_report r ≡ report_of (format_of board) o)
      × ((held_agreement r ≡ agreement (format_of board) notes o) × ((index' ≡ index_after o index) × (ballots' ≡ ballots_after o ballots)))

  -- before the audit, no note is held and every table stays as it was
  pub leaves_all : (o : Outcome) {n : ℕ} → o ≡ unread n → (x : Refused) → reported (Err x) ≡ report_of (format_of board) (refused n 0)
      → Leaves o (Err x) index ballots
  unfolding report_of table_after
  leaves_all o e x told = (rw e told, (rw e, (rw e, rw e)))

  -- 23
  pub bad-told : (x : Refused) → x ≡ record { refusal = BadNotes; items = 0 } → reported (Err x) ≡ report_of (format_of board) (refused bad_notes 0)
  unfolding report_of
  bad-told x e = ap (λ (y : Refused). reported (Err y)) e

  -- what one outcome leaves, an equal one leaves
  pub leaves-same : {o o' : Outcome} → o ≡ o' → (r : Result Held Refused) {index' ballots' : List ℕ} → Leaves o' r index' ballots' → Leaves o r index' ballots'
  leaves-same e r l = rw e l

-- ---- what the notes say, by what the audit answered

module _ {o : Outcome} (f : Format) (notes : List ℕ) where
  pub held-accepted : {h : History} → o ≡ accepted h → {a : model.Agreement} → a ≡ held f notes h → a ≡ agreement f notes o
  held-accepted accepts e = e ∙ rw accepts

  pub held-refused : {n k : ℕ} → RefusedAs o n k → not_held ≡ agreement f notes o
  held-refused (unchanged e none) = rw e
  held-refused (cleared e) = rw e

-- ---- the check before the audit

module _ (board verdicts roll notes index ballots : List ℕ) where
  abbrev outcome : Outcome
  outcome = notes_audit (format_of board) board verdicts roll notes (length index) (length ballots)

  abbrev audited : Outcome
  audited = audit (format_of board) board verdicts roll (length index) (length ballots)

  abbrev is_bad : Bool
  is_bad = is_bad_notes (format_of board) notes

  module _ {r : Bool} (told : r ≡ is_bad) where
    pub bad : r ≡ true → outcome ≡ unread bad_notes
    unfolding notes_audit
    bad q = checked-fails audited 22 (not is_bad) [] ((not-not is_bad).1 (passes (sym told ∙ q)))

    module _ (q : r ≡ false) where
      good : T (not is_bad)
      good = rw (← told, q) tt

      pub late : outcome ≡ audited
      unfolding notes_audit
      late = checked-passes audited 22 (not is_bad) [] good ∙ checked-none audited

      pub whole : Whole board notes
      whole =
          let (all, few) = good-parts (note_size (format_of board)) (omega arith) notes note_limit good in
          record { whole = all; few = few }
