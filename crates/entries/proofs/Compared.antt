-- The answer of comparing two boards, by what their audits answered. Assumes nothing.
use Prim.Native.Nat.{ℕ, ◌≤◌}
use native.Mathlib.Omega.{arith}
use mathlib.Core.Path.{◌≡◌, ◌∙◌}
use mathlib.Core.List.{List}
use Rattle.model.specs.Lists.{count}
use Rattle.model.specs.History.{History, main}
use Rattle.model.specs.Audit.{Outcome, accepted}
use Rattle.model.specs.Comparing.{ComparingAnswer, kept_board, later_board, refused_board, answer_later, comparing_answer}
use Rattle.model.proofs.Lists.{count-keep}
use Rattle.model.proofs.Entries.{orderly}
use Rattle.model.proofs.Chain.{main-opened}
use Rattle.index.specs.Kept.{before, Kept}
use Rattle.std.specs.Prelude.{Ok}
use Rattle.report.specs.declared.Accepted.{Accepted}
use Rattle.audit.specs.declared.Submission.{Submission}
use Rattle.audit.proofs.Whole.{Report, Audited}
use Rattle.audit.proofs.Laws.{accepted-sound, accepted-kept, accepted-mains, RefusedAs, unchanged, cleared}

-- what is known of a board that was accepted: its items pass, so many of them are main items, and the first of these opens it
pub record BoardKnown (board index : List ℕ) (items mains : ℕ) : Type 0 where
  pub kept : Kept board index items
  pub mains_are : mains ≡ count main (before board items)
  pub opened : 1 ≤ mains

pub accepted-board : (submission : Submission) (index ballots : List ℕ) (r : Report) {i b : List ℕ} → Audited submission index ballots r i b
    → {got : Accepted} → r ≡ Ok got → BoardKnown submission.board.now i got.items got.mains
accepted-board submission index ballots r audited {got} e =
    let h = before submission.board.now got.items in
    let sound = accepted-sound submission index ballots r audited e in
    let all : got.mains ≡ count main h = accepted-mains submission index ballots r audited e in
    let opened = main-opened h (orderly sound.passed) sound.opened in
    record {
      kept = accepted-kept submission index ballots r audited e;
      mains_are = all;
      opened = omega (arith, count-keep main (λ e. e.item) h);
    }

pub later-refused : {o : Outcome} {n k : ℕ} (g : History) (number : ℕ) → RefusedAs o n k → refused_board later_board n k ≡ answer_later g o number
unfolding answer_later
later-refused g number (unchanged e none) = rw (e, none)
later-refused g number (cleared e) = rw e

pub later-accepted : {o : Outcome} {h : History} (g : History) (number : ℕ) → o ≡ accepted h → {a : ComparingAnswer}
    → a ≡ answer_later g (accepted h) number → a ≡ answer_later g o number
later-accepted g number accepts e = e ∙ rw accepts

-- the kept board's refusal names it
pub kept-refused : {o : Outcome} {n k : ℕ} (later : Outcome) (number : ℕ) → RefusedAs o n k → refused_board kept_board n k ≡ comparing_answer o later number
unfolding comparing_answer
kept-refused later number (unchanged e none) = rw (e, none)
kept-refused later number (cleared e) = rw e

-- an accepted kept board leaves the answer to the later board's audit
pub kept-accepted : {o : Outcome} {g : History} → o ≡ accepted g → (later : Outcome) (number : ℕ) {a : ComparingAnswer}
    → a ≡ answer_later g later number → a ≡ comparing_answer o later number
unfolding comparing_answer
kept-accepted accepts later number e = e ∙ rw accepts
