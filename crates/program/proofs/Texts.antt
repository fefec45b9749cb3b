-- What the program shows: the text of the audit, of the sizes, and of the files. Assumes nothing.
use Prim.Native.Nat.{ℕ, ◌*◌, ◌/◌, ◌≤◌, min}
use native.Mathlib.Omega.{arith}
use mathlib.Core.Path.{◌≡◌, refl, sym, ap, ◌∙◌}
use mathlib.Core.List.{List, ◌++◌}
use lib.ListN.{length, take, length-append, length-drop}
use lib.Seq.{take_at, take_all, take-length}
use lib.Dec.{leb}
use borrow.Author.Tests.{leb-true, leb-false}
use Rattle.std.specs.Prelude.{Result, Ok, Err}
use Rattle.model.proofs.Tests.{by-test}
use Rattle.model.specs.Format.{Format}
use Rattle.model.specs.Audit.{Outcome, unread, refused, accepted, audit, ballot_row, ballot_need}
use Rattle.model.specs.Report.{Report, report_of, ballots_after}
use Rattle.model.specs.Program.{from_bytes, bytes_per_word, program_limit, verdict_limit, roll_kept, text_of, sized, program_outcome, files_outcome, printed}
use Rattle.model.proofs.Report.{audit-numbered}
use Rattle.model.proofs.Bound.{few-ballots}
use Rattle.model.proofs.Acceptance.{accepted↔sound}
use Rattle.model.proofs.Program.{length-from-bytes}
use Rattle.model.proofs.Traits.{least-item, format-take}
use Rattle.format.specs.Format.{hashes, format_of}
use Rattle.text.specs.Answer.{text_from, report_text}
use Rattle.text.specs.Put.{Shown}
use Rattle.text.proofs.Answer.{report_text-text_of, text_from-sized}
use Rattle.text.proofs.Files.{from_bytes-take, kept-enough}
use Rattle.refusal.specs.Number.{number_of, found_of}
use Rattle.refusal.specs.declared.Refusal.{Refusal}
use Rattle.refusal.proofs.Laws.{number-some}
use Rattle.program.specs.Read.{Read}

-- the text of the audit, from its report and the ballot table behind it
pub audit-shown : (ws vs rs t t' : List ℕ) (i b : ℕ) (r : Report) {l m : List ℕ} {k : ℕ}
    → r ≡ report_of (format_of ws) (audit (format_of ws) ws vs rs i b) → t' ≡ ballots_after (audit (format_of ws) ws vs rs i b) t
    → Shown l (report_text r t') m k → Shown l (text_of (audit (format_of ws) ws vs rs i b)) m k
audit-shown ws vs rs t t' i b r e e' s = rw (e, e', report_text-text_of (format_of ws) (audit (format_of ws) ws vs rs i b) t (audit-numbered (format_of ws) ws vs rs i b)) at s

-- the words of some bytes, in front of others
pub front : (bs w : List ℕ) (n : ℕ) → n ≡ length bs / bytes_per_word → take n (from_bytes bs ++ w) ≡ from_bytes bs
front bs w n e = take_at (from_bytes bs) w n (length-from-bytes bs ∙ sym e)

-- the ballot table has room for the rows that are reported
rows-fit-in : (f : Format) (ws vs rs : List ℕ) (i b : ℕ) (o : Outcome) → ballot_need ≤ b → audit f ws vs rs i b ≡ o → ballot_row * (report_of f o).ballots ≤ b
unfolding report_of
rows-fit-in f ws vs rs i b (unread n) h e = omega arith
rows-fit-in f ws vs rs i b (refused n k) h e = omega arith
rows-fit-in f ws vs rs i b (accepted g) h e = let s = ((accepted↔sound f ws vs rs i b g).0 e).0 in omega (arith, few-ballots s.passed s.few)

pub rows_fit : (f : Format) (ws vs rs : List ℕ) (i b : ℕ) (r : Report) → r ≡ report_of f (audit f ws vs rs i b) → ballot_need ≤ b → ballot_row * r.ballots ≤ b
rows_fit f ws vs rs i b r e h = rw e (rows-fit-in f ws vs rs i b (audit f ws vs rs i b) h refl)

-- a text that is shown is within the bytes
pub shown-within : {l s m : List ℕ} {k : ℕ} → Shown l s m k → length m ≡ length l → k ≤ length m
shown-within s e = omega (arith, s.end, simp (length-append, length-drop) at (ap length s.bytes))

-- ---- the sizes

-- the text of files whose sizes are refused, and of others
module _ {X : Type 0} (g : Result X Refusal) (n : ℕ) (o : Outcome) {l m : List ℕ} {k : ℕ} (found : found_of g ≡ n) where
  pub refused-shown : (x : Refusal) (t : List ℕ) → g ≡ Err x → Shown l (text_from (number_of x) 0 0 0 0 t) m k → Shown l (text_of (sized n o)) m k
  refused-shown x t e s =
      let same : n ≡ number_of x = sym found ∙ ap found_of e in
      rw (same, ← text_from-sized (number_of x) o t (λ z. omega (arith, number-some x))) s

  pub sized-shown : {u : X} → g ≡ Ok u → Shown l (text_of o) m k → Shown l (text_of (sized n o)) m k
  unfolding sized
  sized-shown e s = let none : n ≡ 0 = sym found ∙ ap found_of e in rw none s

-- ---- the files

take_min : (i : ℕ) (l : List ℕ) → take (min i (length l)) l ≡ take i l
take_min i l =
    by-test (leb i (length l))
    (λ q. let h = leb-true i (length l) q in let e : min i (length l) ≡ i = omega arith in rw e)
    (λ q. let h = leb-false i (length l) q in let e : min i (length l) ≡ length l = omega arith in rw (e, take-length, take_all i l (omega arith)))

-- the bytes that are kept of a file are its first bytes
kept : (buffer file : List ℕ) (i p : ℕ) → p ≡ min i (length buffer) → Read buffer i file → take p buffer ≡ take (length buffer) file
kept buffer file i p e r = rw (e, take_min) (sym r.bytes)

-- the format of a board is that of the bytes that are kept
kept-format : (b : List ℕ) → format_of (from_bytes (take (bytes_per_word * program_limit) b)) ≡ format_of (from_bytes b)
kept-format b = ap format_of (from_bytes-take program_limit (bytes_per_word * program_limit) b refl) ∙ format-take hashes program_limit (from_bytes b) (omega arith)

-- the outcome for files, from the bytes that are kept of them
kept-outcome : (b v w : List ℕ)
    → program_outcome (format_of (from_bytes (take (bytes_per_word * program_limit) b))) (length b) (length v) (length w)
    (from_bytes (take (bytes_per_word * program_limit) b)) (from_bytes (take (bytes_per_word * verdict_limit) v)) (from_bytes (take (bytes_per_word * roll_kept) w))
    ≡ files_outcome (format_of (from_bytes b)) b v w
kept-outcome b v w =
    ap (λ (f : Format). program_outcome f (length b) (length v) (length w)
    (from_bytes (take (bytes_per_word * program_limit) b)) (from_bytes (take (bytes_per_word * verdict_limit) v)) (from_bytes (take (bytes_per_word * roll_kept) w))) (kept-format b)
    ∙ kept-enough (format_of (from_bytes b)) b v w (least-item hashes (from_bytes b))

-- what is printed for files, from the bytes that are kept of them
pub printed-shown : (board verdicts roll b v w : List ℕ) (i j n p q r : ℕ) {l m : List ℕ} {k : ℕ}
    → length board ≡ bytes_per_word * program_limit → length verdicts ≡ bytes_per_word * verdict_limit → length roll ≡ bytes_per_word * roll_kept
    → p ≡ min i (length board) → q ≡ min j (length verdicts) → r ≡ min n (length roll) → Read board i b → Read verdicts j v → Read roll n w
    → Shown l (text_of (program_outcome (format_of (from_bytes (take p board))) i j n (from_bytes (take p board)) (from_bytes (take q verdicts)) (from_bytes (take r roll)))) m k
    → Shown l (printed (format_of (from_bytes b)) b v w) m k
printed-shown board verdicts roll b v w i j n p q r eb ev er ep eq en x y z s =
    rw (
      kept board b i p ep x,
      kept verdicts v j q eq y,
      kept roll w n r en z,
      eb,
      ev,
      er,
      ← x.whole,
      ← y.whole,
      ← z.whole,
      kept-outcome b v w,
    ) at s
