-- Laws of the text of an answer: from its lines, and that it is the text of an outcome whose report and ballot table it is made of.
-- Assumes nothing.
use Prim.Native.Nat.{ℕ, zero, suc, ◌*◌}
use native.Mathlib.Omega.{arith}
use mathlib.Core.Path.{◌≡◌, refl, ◌∙◌}
use mathlib.Core.List.{List, ◌++◌}
use lib.ListN.{length, take, replicate}
use lib.Seq.{take_at}
use borrow.Author.Tests.{eq-eqb, ne_eqb}
use Rattle.model.specs.Lists.{if◌then◌otherwise◌}
use Rattle.model.specs.Format.{Format}
use Rattle.model.specs.Counted.{counted}
use Rattle.model.specs.Audit.{Outcome, unread, refused, accepted, ballot_row}
use Rattle.model.specs.Report.{report_of, ballot_rows, filled, table_after, ballots_after}
use Rattle.model.specs.Program.{refused_line, accepted_line, row_lines, text_of, sized}
use Rattle.model.proofs.Report.{Numbered}
use Rattle.model.proofs.Tables.{length-ballot_rows}
use Rattle.text.specs.Answer.{accepted_text, text_from, report_text}
use Rattle.text.specs.declared.writer.Writer.{Writer}
use Rattle.text.specs.Put.{Writes}
use Rattle.text.proofs.Placed.{writes_then}

-- ---- from its lines

module _ (number items mains ballots weight : ℕ) (table : List ℕ) where
  text_from-refused : (number ≡ 0 → ⊥) → text_from number items mains ballots weight table ≡ refused_line number items
  unfolding text_from if◌then◌otherwise◌
  text_from-refused h = rw (ne_eqb number 0 h)

  text_from-accepted : number ≡ 0
      → text_from number items mains ballots weight table ≡ accepted_line items mains ballots weight ++ row_lines (take (ballot_row * ballots) table)
  unfolding text_from accepted_text if◌then◌otherwise◌
  text_from-accepted e = rw (eq-eqb number 0 e)

  pub put-refusal : {u v : Writer} → (number ≡ 0 → ⊥) → Writes u (refused_line number items) v
      → Writes u (text_from number items mains ballots weight table) v
  put-refusal h p = rw (text_from-refused h) p

  pub put-acceptance : {u v w : Writer} → number ≡ 0 → Writes u (accepted_line items mains ballots weight) v
      → Writes v (row_lines (take (ballot_row * ballots) table)) w → Writes u (text_from number items mains ballots weight table) w
  put-acceptance e p q = rw (text_from-accepted e) (writes_then p q)

-- ---- of an outcome

-- the rows are the first words of the ballot table
rows-first : (n k : ℕ) (rows : List ℕ) → length rows ≡ k → take k (filled n rows) ≡ rows
unfolding filled
rows-first n k rows e = take_at rows _ k e

pub report_text-text_of : (f : Format) (o : Outcome) (table : List ℕ) → Numbered o → report_text (report_of f o) (ballots_after o table) ≡ text_of o
unfolding report_of text_of table_after
report_text-text_of f (unread n) table h = text_from-refused n 0 0 0 0 table (λ e. omega arith)
report_text-text_of f (refused n k) table h = text_from-refused n k 0 0 0 (replicate (length table) 0) (λ e. omega arith)
report_text-text_of f (accepted h) table u =
    text_from-accepted 0 _ _ _ _ _ refl
    ∙ rw (rows-first (length table) (ballot_row * length (counted h)) (ballot_rows (counted h)) (length-ballot_rows (counted h)))

-- a refusal for the sizes
pub text_from-sized : (n : ℕ) (o : Outcome) (table : List ℕ) → (n ≡ 0 → ⊥) → text_from n 0 0 0 0 table ≡ text_of (sized n o)
unfolding sized text_of
text_from-sized zero o table h = absurd (h refl)
text_from-sized (suc n) o table h = text_from-refused (suc n) 0 0 0 0 table h
