-- What the entry that exports a board answers and writes: a refusal stands and writes nothing, a text buffer that is too short is refused as 2,
-- and for an accepted board the buffer begins with the export. Paper: request (xi). Assumes nothing.
use Prim.Native.Nat.{ℕ, ◌≤◌, ◌<◌}
use native.Mathlib.Omega.{arith}
use mathlib.Core.Path.{◌≡◌, refl, sym, ap, subst}
use mathlib.Core.Logic.Iff
use mathlib.Core.Logic.{◌↔◌}
use mathlib.Core.Bool.{Bool, true, false, not}
use mathlib.Core.List.{List}
use lib.ListN.{length, take, drop, length-append, length-drop}
use lib.Seq.{take-append_seam, drop-append_seam}
use lib.Dec.{T, ltb}
use Rattle.model.specs.Lists.{if◌then◌otherwise◌}
use Rattle.model.specs.Refusal.{short_table}
use Rattle.model.specs.Format.{Format}
use Rattle.model.specs.History.{History}
use Rattle.model.specs.Audit.{Outcome, unread, refused, accepted, audit}
use Rattle.model.specs.Report.{report_of, Refuses}
use Rattle.model.specs.Above.{buffer_after}
use Rattle.model.proofs.Tests.{tests, leb-iff}
use Rattle.model.proofs.Acceptance.{not-unread}
use Rattle.model.proofs.Above.{buffer-unchanged}
use Rattle.exporting.specs.Export.{export_text, export_outcome, export_length, text_after}

-- ---- of any outcome

module _ {f : Format} {n k : ℕ} where
  -- a refusal stands, whatever the room
  refusal-stands : (room : ℕ) (o : Outcome) → Refuses f o n k → export_outcome room o ≡ o
  unfolding export_outcome report_of
  refusal-stands room (unread m) r = refl
  refusal-stands room (refused m i) r = refl
  refusal-stands room (accepted h) r = absurd (omega (arith, r.refusal, r.number))

  length_none : (o : Outcome) → Refuses f o n k → export_length o ≡ 0
  unfolding report_of
  length_none (unread m) r = refl
  length_none (refused m i) r = refl
  length_none (accepted h) r = absurd (omega (arith, r.refusal, r.number))

-- the answer for an accepted board, by the test whether the buffer is too short
abbrev by_room : Bool → History → Outcome
by_room short h = if short then unread short_table otherwise accepted h

short-refuses : (f : Format) (short : Bool) (h : History) → Refuses f (by_room short h) 2 0 ↔ T short
unfolding if◌then◌otherwise◌ report_of
short-refuses f true h = (λ r. tt, λ t. record { refusal = omega arith; number = refl; items = refl })
short-refuses f false h = (λ r. omega (arith, r.number), λ t. absurd t)

roomy-accepts : (short : Bool) (h : History) → (by_room short h ≡ accepted h) ↔ T (not short)
unfolding if◌then◌otherwise◌
roomy-accepts true h = (λ e. absurd (not-unread e), λ t. absurd t)
roomy-accepts false h = (λ e. tt, λ t. refl)

-- what an outcome that accepts h leaves of the buffer s, if it has the room
abbrev Written : History → List ℕ → Outcome → Type 0
Written h s o =
    let n = export_length o in
    let after = text_after o s in
    (n ≡ length (export_text h)) × (take n after ≡ export_text h) × (drop n after ≡ drop n s) × (length after ≡ length s)

text-written : (h : History) (s : List ℕ) → length (export_text h) ≤ length s → Written h s (accepted h)
unfolding buffer_after
text-written h s room =
    let t = export_text h in
    (refl, take-append_seam t _, drop-append_seam t _, simp (length-append, length-drop) (omega arith))

-- ---- the entry

module _ (f : Format) (ws vs roll : List ℕ) (index ballots : ℕ) (text : List ℕ) where
  abbrev audited : Outcome
  audited = audit f ws vs roll index ballots

  abbrev exporting : Outcome
  exporting = export_outcome (length text) audited

  pub export-refused : (n k : ℕ) → Refuses f audited n k → report_of f exporting ≡ report_of f audited
  export-refused n k r = ap (report_of f) (refusal-stands (length text) audited r)

  pub export-none : (n k : ℕ) → Refuses f exporting n k → (text_after exporting text ≡ text) × (export_length exporting ≡ 0)
  export-none n k r = (buffer-unchanged exporting _ text r, length_none exporting r)

  module _ (h : History) (a : audited ≡ accepted h) where
    abbrev short : Bool
    short = ltb (length text) (length (export_text h))

    by-room : exporting ≡ by_room short h
    unfolding export_outcome
    by-room = ap (export_outcome (length text)) a

    pub export-short : Refuses f exporting 2 0 ↔ (length text < length (export_text h))
    export-short = Iff.trans (rw by-room (short-refuses f short h)) (leb-iff _ _)

    pub export-accepted : (exporting ≡ accepted h) ↔ (length (export_text h) ≤ length text)
    export-accepted =
        let accepts = roomy-accepts short h in
        rw by-room (λ e. let t = accepts.0 e in omega (arith, tests), λ l. accepts.1 (omega (arith, tests)))

    pub export-written : exporting ≡ accepted h → let n = export_length exporting in let after = text_after exporting text in
        (n ≡ length (export_text h)) × (take n after ≡ export_text h) × (drop n after ≡ drop n text) × (length after ≡ length text)
    export-written e = subst (Written h text) (sym e) (text-written h text (export-accepted.0 e))
