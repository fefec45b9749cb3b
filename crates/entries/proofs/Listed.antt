-- The answer of listing an item's ancestry, and what the buffers hold, by what the audit answered. Assumes nothing.
use Prim.Native.Nat.{ℕ, ◌≤◌, ◌<◌}
use native.Mathlib.Omega.{arith}
use mathlib.Core.Path.{◌≡◌, sym, ◌∙◌}
use mathlib.Core.Bool.{Bool, true, false, not, ◌||◌}
use mathlib.Core.List.{List}
use lib.ListN.{length, replicate}
use lib.Dec.{T, ltb, lt→ltb}
use lib.Arith.{le→nltb}
use borrow.Author.Tests.{le-ltb}
use Rattle.model.specs.Lists.{if◌then◌otherwise◌}
use Rattle.model.specs.Refusal.{too_large, short_table}
use Rattle.model.specs.History.{History}
use Rattle.model.specs.Roll.{is_bad_roll}
use Rattle.model.specs.Audit.{Outcome, unread, refused, accepted, audit, word_limit, index_need, ballot_need, is_short, is_empty}
use Rattle.model.specs.Report.{table_after, index_after, ballots_after}
use Rattle.model.specs.Ancestry.{list_need, ancestry_audit, AncestryAnswer, unlisted, ancestry_answer, list_after}
use Rattle.model.specs.Reasons.{start_reasons}
use Rattle.model.proofs.Tests.{by-test, tests, neither, passes}
use Rattle.model.proofs.Acceptance.{unread-some}
use Rattle.model.proofs.FirstReason.{first_number, first-number}
use Rattle.model.proofs.ByNumber.{unread-reason}
use Rattle.model.proofs.Listing.{too_large_lem, short-buffer, as-audited}
use Rattle.format.specs.Format.{format_of}
use Rattle.audit.proofs.Laws.{RefusedAs, unchanged, cleared}
use Rattle.entries.specs.Listing.{Sized}

-- ---- by the audit's answer

module _ (o : Outcome) (number : ℕ) (list : List ℕ) where
  pub list-refused : {n k : ℕ} → o ≡ refused n k
      → (unlisted n k ≡ ancestry_answer o number) × (replicate (length list) 0 ≡ list_after o number list)
  unfolding ancestry_answer table_after
  list-refused e = (rw e, rw e)

  pub list-accepted : (zeros : List ℕ) {h : History} {answer : AncestryAnswer} {after : List ℕ} → o ≡ accepted h → length zeros ≡ length list
      → answer ≡ ancestry_answer (accepted h) number → after ≡ list_after (accepted h) number zeros
      → (answer ≡ ancestry_answer o number) × (after ≡ list_after o number list)
  unfolding table_after
  list-accepted zeros e size a s = (a ∙ rw e, s ∙ rw (e, size))

  -- before anything is written, every buffer stays as it was
  pub all-unchanged : (index ballots : List ℕ) {n : ℕ} → o ≡ unread n
      → (unlisted n 0 ≡ ancestry_answer o number) × ((index ≡ index_after o index) × ((ballots ≡ ballots_after o ballots) × (list ≡ list_after o number list)))
  unfolding ancestry_answer table_after
  all-unchanged index ballots e = (rw e, (rw e, (rw e, rw e)))

-- what is answered and left by one outcome, by an equal one
pub left_by : {o o' : Outcome} → o ≡ o' → (number : ℕ) (index ballots list : List ℕ) {answer : AncestryAnswer} {index' ballots' list' : List ℕ}
    → (answer ≡ ancestry_answer o' number) × ((index' ≡ index_after o' index) × ((ballots' ≡ ballots_after o' ballots) × (list' ≡ list_after o' number list)))
    → (answer ≡ ancestry_answer o number) × ((index' ≡ index_after o index) × ((ballots' ≡ ballots_after o ballots) × (list' ≡ list_after o number list)))
left_by e number index ballots list l = rw e l

-- ---- the tests before the audit

module _ (board verdicts roll index ballots list : List ℕ) where
  abbrev outcome : Outcome
  outcome = ancestry_audit (format_of board) board verdicts roll (length index) (length ballots) (length list)

  pub large : word_limit < length board → outcome ≡ unread too_large
  large l = too_large_lem (format_of board) board verdicts roll (length index) (length ballots) (length list) (lt→ltb word_limit (length board) l)

  module _ (few : length board ≤ word_limit) {r : Bool} (told : r ≡ (is_short (length index) (length ballots) || ltb (length list) list_need)) where
    pub short : r ≡ true → outcome ≡ unread short_table
    short q =
        short-buffer (format_of board) board verdicts roll (length index) (length ballots) (length list) (le→nltb word_limit (length board) few)
        (passes (sym told ∙ q))

    pub sized : r ≡ false → Sized board index ballots list
    sized q =
        let fits : T (not (is_short (length index) (length ballots) || ltb (length list) list_need)) = rw (← told, q) tt in
        let each = simp neither at fits in
        record { few = few; wide = omega (arith, tests); roomy = omega (arith, tests); long = omega (arith, tests) }

  pub audited : list_need ≤ length list → outcome ≡ audit (format_of board) board verdicts roll (length index) (length ballots)
  audited l = as-audited (format_of board) board verdicts roll (length index) (length ballots) (length list) l

-- ---- the audit within these sizes

module _ (board verdicts roll index ballots list : List ℕ) (s : Sized board index ballots list) where
  not-unread : (n : ℕ) → audit (format_of board) board verdicts roll (length index) (length ballots) ≡ unread n → ⊥
  unfolding first_number start_reasons if◌then◌otherwise◌
  not-unread n e =
      let (reason, good, other) = (unread-reason (format_of board) board verdicts roll (length index) (length ballots) n).0 e in
      let some = unread-some (format_of board) board verdicts roll (length index) (length ballots) n e in
      let large = le-ltb word_limit (length board) s.few in
      let wide = le-ltb (length index) index_need s.wide in
      let roomy = le-ltb (length ballots) ballot_need s.roomy in
      let number = rw (large, wide, roomy) at (first-number reason) in
      by-test (is_bad_roll roll) (λ b. good (sym (rw b at number)))
      (λ b. by-test (is_empty board) (λ q. other (sym (rw (b, q) at number))) (λ q. omega (arith, rw (b, q) at number)))

  -- a refusal comes after the tables are cleared
  pub refused-late : {n k : ℕ} → RefusedAs (audit (format_of board) board verdicts roll (length index) (length ballots)) n k
      → audit (format_of board) board verdicts roll (length index) (length ballots) ≡ refused n k
  refused-late {n} (unchanged e none) = absurd (not-unread n e)
  refused-late (cleared e) = e
