-- What exporting a board answers, and what the text buffer holds, by what the audit answered and by whether the text fits. Assumes nothing.
use Prim.Native.Nat.{ℕ, ◌≤◌, ◌<◌}
use mathlib.Core.Path.{◌≡◌, sym, ap, ◌∙◌}
use Rattle.std.specs.Prelude.{Option, Some, None, Err, leb}
use Rattle.refusal.specs.declared.Refusal.TheVariants.{ShortTable}
use Rattle.refusal.specs.declared.Refused.{Refused}
use Rattle.report.specs.Reported.{reported}
use mathlib.Core.List.{List}
use lib.ListN.{length}
use borrow.Author.Tests.{leb-true, leb-false, lt-ltb, le-ltb}
use Rattle.model.specs.Lists.{if◌then◌otherwise◌}
use Rattle.model.proofs.Tests.{by-test}
use Rattle.model.specs.Refusal.{short_table}
use Rattle.model.specs.Format.{Format}
use Rattle.model.specs.History.{History}
use Rattle.model.specs.Audit.{Outcome, unread, refused, accepted}
use Rattle.model.specs.Report.{Report, report_of}
use Rattle.model.specs.Above.{buffer_after}
use Rattle.exporting.specs.Export.{export_text, export_outcome, export_length, text_after}
use Rattle.export.specs.Lines.{fits_in, bytes_in}
use Rattle.audit.proofs.Laws.{RefusedAs, unchanged, cleared}

-- nothing is written only where the buffer is shorter, and else the whole text
none-short : (room : ℕ) (h : History) → None ≡ bytes_in room h → room < length (export_text h)
unfolding bytes_in fits_in if◌then◌otherwise◌
none-short room h e =
    by-test (leb (length (export_text h)) room)
    (λ f. let a : None ≡ Some (length (export_text h)) = rw f at e in absurd (cc a))
    (λ f. leb-false (length (export_text h)) room f)

some-fit : (room : ℕ) (h : History) {n : ℕ} → Some n ≡ bytes_in room h → (length (export_text h) ≤ room) × (n ≡ length (export_text h))
unfolding bytes_in fits_in if◌then◌otherwise◌
some-fit room h {n} e =
    by-test (leb (length (export_text h)) room)
    (λ f. let a : Some n ≡ Some (length (export_text h)) = rw f at e in (leb-true (length (export_text h)) room f, cc a))
    (λ f. let a : Some n ≡ None = rw f at e in absurd (cc a))

-- 2
pub short-told : (f : Format) (x : Refused) → x ≡ record { refusal = ShortTable; items = 0 } → reported (Err x) ≡ report_of f (refused short_table 0)
unfolding report_of
short-told f x e = ap (λ (y : Refused). reported (Err y)) e

module _ (f : Format) (text : List ℕ) (o : Outcome) where
  abbrev exporting : Outcome
  exporting = export_outcome (length text) o

  -- the answer and the text buffer after it
  abbrev pub Leaves : Report → ℕ → List ℕ → Type 0
  Leaves r bytes text' = (r ≡ report_of f exporting) × (bytes ≡ export_length exporting) × (text' ≡ text_after exporting text)

  -- a refusal of the audit stands, and writes nothing
  pub leaves-refused : {r : Report} {n k : ℕ} → r ≡ report_of f o → RefusedAs o n k → Leaves r 0 text
  unfolding export_outcome buffer_after
  leaves-refused told (unchanged e none) = (told ∙ rw e, rw e, rw e)
  leaves-refused told (cleared e) = (told ∙ rw e, rw e, rw e)

  -- ---- of an accepted board, by whether its text fits

  module _ {h : History} (accepts : o ≡ accepted h) {written : Option ℕ} (told : written ≡ bytes_in (length text) h) {text' : List ℕ}
      (wrote : text' ≡ text_after (export_outcome (length text) (accepted h)) text) where
    is-short : written ≡ None → exporting ≡ unread short_table
    unfolding export_outcome if◌then◌otherwise◌
    is-short q = rw (accepts, lt-ltb (length text) (length (export_text h)) (none-short (length text) h (sym q ∙ told)))

    is-fit : {bytes : ℕ} → written ≡ Some bytes → exporting ≡ o
    unfolding export_outcome if◌then◌otherwise◌
    is-fit q = rw (accepts, le-ltb (length text) (length (export_text h)) (some-fit (length text) h (sym q ∙ told)).0)

    counted : {bytes : ℕ} → written ≡ Some bytes → bytes ≡ export_length exporting
    counted q = (some-fit (length text) h (sym q ∙ told)).1 ∙ ap export_length (sym (is-fit q ∙ accepts))

    as_written : text' ≡ text_after exporting text
    as_written = wrote ∙ rw accepts

    pub leaves-short : {r : Report} → r ≡ report_of f (refused short_table 0) → written ≡ None → Leaves r 0 text'
    unfolding report_of
    leaves-short r q = (r ∙ rw (is-short q), rw (is-short q), as_written)

    pub leaves-fit : {r : Report} {bytes : ℕ} → r ≡ report_of f o → written ≡ Some bytes → Leaves r bytes text'
    leaves-fit r q = (r ∙ rw (is-fit q), counted q, as_written)
