-- The audit gives every answer for its reason: the outcome is the one that `Answers` tells, and there is exactly one. Paper: "Refusals and
-- their order" ("The first that applies is the answer"). Assumes nothing.
use Prim.Native.Nat.{ℕ, zero, suc, ◌+◌, ◌≤◌, ◌<◌}
use native.Mathlib.Nat.{not-suc-le-zero}
use native.Mathlib.Omega.{arith}
use native.Mathlib.Decide.{dec_le}
use mathlib.Core.Path.{◌≡◌, refl, sym, ap, subst, ◌∙◌}
use mathlib.Core.Logic.{◌≢◌, ◌↔◌, by_cases}
use mathlib.Core.Bool.{not}
use mathlib.Core.Option.{Option, none, some}
use mathlib.Core.List.{List, [], ◌∷◌, map}
use lib.ListN.{length, get_or}
use lib.Dec.{T, eqb, leb, nleb→lt}
use borrow.Author.Tests.{eqb-true, eqb-false}
use Rattle.model.specs.Lists.{if◌then◌otherwise◌, any}
use Rattle.model.specs.Words.{is_closing}
use Rattle.model.specs.Refusal.{no_fault, too_large, empty_board, truncated, bad_roll}
use Rattle.model.specs.Format.{Format}
use Rattle.model.specs.Types.{Row, row_of}
use Rattle.model.specs.History.{place_of, history}
use Rattle.model.specs.Roll.{Eligibility, is_bad_roll, on_roll}
use Rattle.model.specs.Audit.{Outcome, unread, refused, accepted, Check, first_unmet, checks, head_fault, fault_in, fault, closing, judged, items, audit, item_limit, is_too_large, is_short, is_empty, closing_ok}
use Rattle.model.specs.Reasons.{Reason, NoneOf, FirstOf, start_reasons, listed_with, ClosesAt, HeadAt, item_reasons, closing_reasons, Reached, Answers, at_start, at_roll, at_empty, at_end, at_item, at_closing, acceptance}
use Rattle.model.proofs.Tests.{tests, by-test, passes, neither, ne→neqb, if_yes, if_no, if-both}
use Rattle.model.proofs.FirstReason.{first_number, by_first, none_number, first-number, every_first}
use Rattle.model.proofs.Unchecked.{length-history}
use Rattle.model.proofs.Steps.{items_from, judged-refused, from_start, from-ended, from-closing, from-full, from-refused, from-passed}

-- ---- an item's fault is its first reason's number

unmet : Check → Reason
unmet c = record { number = c.number; applies = not c.met }

unmet-number : (cs : List Check) → first_unmet cs ≡ first_number (map unmet cs)
unfolding unmet first_unmet first_number
unmet-number [] = refl
unmet-number (c ∷ cs) = by-test c.met (λ q. rw q (unmet-number cs)) (λ q. rw q)

not_first : (rs : List Reason) (r : Reason) (rest : List Reason) → rs ≡ r ∷ rest → NoneOf rs → T (not r.applies)
unfolding any
not_first rs r rest e u = ((neither r.applies (any (λ s. s.applies) rest)).0 (subst NoneOf e u)).0

module _ (f : Format) (on : Eligibility) (ws vs : List ℕ) (k : ℕ) where
  by_row : (row : Option Row) → row_of f (get_or ws (place_of f ws k) 0) ≡ row
      → first_number (item_reasons f on ws vs k) ≡ (if leb item_limit k then too_large otherwise fault_in f on ws vs row (history f ws k) (place_of f ws k))
  unfolding item_reasons listed_with first_number fault_in head_fault checks unmet
  by_row none q = rw q
  by_row (some r) q = rw (q, unmet-number)

  full-number : item_limit ≤ k → first_number (item_reasons f on ws vs k) ≡ too_large
  full-number l = by_row _ refl ∙ if_yes (leb item_limit k) _ _ (omega (arith, tests))

  pub fault-number : k < item_limit → fault f on ws vs (history f ws k) (place_of f ws k) ≡ first_number (item_reasons f on ws vs k)
  fault-number l = sym (by_row _ refl ∙ if_no (leb item_limit k) _ _ (omega (arith, tests)))

  pub few : NoneOf (item_reasons f on ws vs k) → k < item_limit
  unfolding item_reasons
  few u = nleb→lt item_limit k (not_first (item_reasons f on ws vs k) _ _ refl u)

  -- no item has the number 0 for a refusal
  pub some_number : {n : ℕ} → FirstOf (item_reasons f on ws vs k) n → n ≢ no_fault
  unfolding item_reasons
  some_number s = every_first (λ n. n ≢ no_fault) (omega arith) s

-- ---- the audit along the reasons

module _ (f : Format) (on : Eligibility) (ws vs : List ℕ) (k : ℕ) where
  abbrev after : ℕ → Outcome
  after = items_from f on ws vs

  -- no reason applies to an item
  item-passed : HeadAt f ws k → NoneOf (item_reasons f on ws vs k) → after k ≡ after (suc k)
  item-passed (there, head) u =
      let small = few f on ws vs k u in
      from-passed f ws (closing_ok ws vs) (fault f on ws vs) k there head small (fault-number f on ws vs k small ∙ none_number _ u)

  -- a reason is the first to apply to it
  item_refused : (n : ℕ) → HeadAt f ws k → FirstOf (item_reasons f on ws vs k) n → after k ≡ refused n k
  item_refused n (there, head) s =
      by_cases (dec_le item_limit k)
      (λ l. rw (sym (first-number s) ∙ full-number f on ws vs k l) (from-full f ws (closing_ok ws vs) (fault f on ws vs) k there head l))
      (λ l. from-refused f ws (closing_ok ws vs) (fault f on ws vs) k there head (omega arith) n (fault-number f on ws vs k (omega arith) ∙ first-number s) (some_number f on ws vs k s))

  -- at the closing word
  closing-number : closing (closing_ok ws vs (history f ws k) (place_of f ws k)) (history f ws k)
      ≡ judged (first_number (closing_reasons f ws vs k)) (history f ws k) (accepted (history f ws k))
  unfolding closing judged closing_reasons first_number
  closing-number =
      let h = history f ws k in
      sym (if-both (λ (n : ℕ). judged n h (accepted h)) (not (closing_ok ws vs h (place_of f ws k))) refl refl)

  closing-refused : (n : ℕ) → ClosesAt f ws k → FirstOf (closing_reasons f ws vs k) n → after k ≡ refused n k
  unfolding closing_reasons
  closing-refused n (there, last) s =
      let some = every_first (λ m. m ≢ no_fault) (omega arith) s in
      from-closing f ws (closing_ok ws vs) (fault f on ws vs) k there last ∙ closing-number
      ∙ ap (λ (m : ℕ). judged m (history f ws k) (accepted (history f ws k))) (first-number s)
      ∙ judged-refused n (history f ws k) _ some ∙ ap (refused n) (length-history f ws k)

  closing-accepted : ClosesAt f ws k → NoneOf (closing_reasons f ws vs k) → after k ≡ accepted (history f ws k)
  unfolding judged
  closing-accepted (there, last) u = from-closing f ws (closing_ok ws vs) (fault f on ws vs) k there last ∙ closing-number
      ∙ ap (λ (m : ℕ). judged m (history f ws k) (accepted (history f ws k))) (none_number _ u)

-- before the items
start_answer : ℕ → Outcome → Outcome
unfolding if◌then◌otherwise◌
start_answer n o = if eqb n no_fault then o otherwise if eqb n bad_roll then refused bad_roll 0 otherwise if eqb n empty_board then refused empty_board 0 otherwise unread n

start-unread : (n : ℕ) (o : Outcome) → n ≢ no_fault → n ≢ bad_roll → n ≢ empty_board → start_answer n o ≡ unread n
unfolding start_answer
start-unread n o other good full =
    if_no (eqb n no_fault) _ _ (ne→neqb n no_fault other)
    ∙ if_no (eqb n bad_roll) _ _ (ne→neqb n bad_roll good)
    ∙ if_no (eqb n empty_board) _ _ (ne→neqb n empty_board full)

module _ (f : Format) (ws vs roll : List ℕ) (index ballots : ℕ) where
  -- what the audit of the items gives
  abbrev items_answer : Outcome
  items_answer = items f (on_roll roll) ws vs item_limit [] 0

  start-number : audit f ws vs roll index ballots ≡ start_answer (first_number (start_reasons ws roll index ballots)) items_answer
  unfolding audit start_answer start_reasons first_number
  start-number =
      let answer : ℕ → Outcome = λ n. start_answer n items_answer in
      sym (if-both answer (is_too_large ws) refl (if-both answer (is_short index ballots) refl
      (if-both answer (is_bad_roll roll) refl (if-both answer (is_empty ws) refl refl))))

  start_first : (n : ℕ) → FirstOf (start_reasons ws roll index ballots) n → audit f ws vs roll index ballots ≡ start_answer n items_answer
  start_first n s = start-number ∙ ap (λ (m : ℕ). start_answer m items_answer) (first-number s)

  -- the first k items pass
  reached : (k : ℕ) → Reached f ws vs roll index ballots k → audit f ws vs roll index ballots ≡ items_from f (on_roll roll) ws vs k
  unfolding start_answer
  reached zero r = start-number ∙ ap (λ (m : ℕ). start_answer m items_answer) (none_number _ r.started) ∙ from_start f ws (closing_ok ws vs) (fault f (on_roll roll) ws vs)
  reached (suc k) r =
      let last = r.passed k (omega arith) in
      let before : Reached f ws vs roll index ballots k = record { started = r.started; passed = λ j l. r.passed j (omega arith) } in
      reached k before ∙ item-passed f (on_roll roll) ws vs k last.0 last.1

  answered : {o : Outcome} → Answers f ws vs roll index ballots o → audit f ws vs roll index ballots ≡ o
  unfolding start_answer start_reasons
  answered (at_start n s bad other) =
      start_first n s ∙ start-unread n items_answer (every_first (λ m. m ≢ no_fault) (omega arith) s) bad other
  answered (at_roll s) = start_first bad_roll s
  answered (at_empty s) = start_first empty_board s
  answered (at_end k r end) = reached k r ∙ from-ended f ws (closing_ok ws vs) (fault f (on_roll roll) ws vs) k end
  answered (at_item n k r head s) = reached k r ∙ item_refused f (on_roll roll) ws vs k n head s
  answered (at_closing n k r last s) = reached k r ∙ closing-refused f (on_roll roll) ws vs k n last s
  answered (acceptance k r last u) = reached k r ∙ closing-accepted f (on_roll roll) ws vs k last u

  abbrev Answered : Type 0
  Answered = (o : Outcome) × Answers f ws vs roll index ballots o

  further : (k : ℕ) → Reached f ws vs roll index ballots k → HeadAt f ws k → NoneOf (item_reasons f (on_roll roll) ws vs k) → Reached f ws vs roll index ballots (suc k)
  further k r head u = record {
    started = r.started;
    passed = λ j l. by_cases (dec_le (suc j) k) (λ m. r.passed j m) (λ m. let same : j ≡ k = omega arith in rw same (head, u));
  }

  -- behind the first k items there is an answer, or another item that passes
  by_word : (k : ℕ) → Reached f ws vs roll index ballots k → (HeadAt f ws k → NoneOf (item_reasons f (on_roll roll) ws vs k) → Answered) → Answered
  by_word k r next =
      by_cases (dec_le (length ws) (place_of f ws k)) (λ end. (refused truncated k, at_end k r end))
      λ l.
      let there : place_of f ws k < length ws = omega arith in
      by-test (is_closing (get_or ws (place_of f ws k) 0))
      (λ q. by_first (closing_reasons f ws vs k)
      (λ u. (accepted (history f ws k), acceptance k r (there, passes q) u))
      (λ n s. (refused n k, at_closing n k r (there, passes q) s)))
      (λ q. by_first (item_reasons f (on_roll roll) ws vs k) (next (there, rw q tt)) (λ n s. (refused n k, at_item n k r (there, rw q tt) s)))

  -- where m more items are allowed
  by-items : (m k : ℕ) → m + k ≡ item_limit → Reached f ws vs roll index ballots k → Answered
  by-items zero k e r = by_word k r (λ head u. absurd (omega (arith, few f (on_roll roll) ws vs k u)))
  by-items (suc m) k e r = by_word k r (λ head u. by-items m (suc k) (omega arith) (further k r head u))

  some-answer : Answered
  some-answer =
      by_first (start_reasons ws roll index ballots)
      (λ u. by-items item_limit 0 refl (record { started = u; passed = λ j l. absurd (not-suc-le-zero l) }))
      λ n s. by-test (eqb n bad_roll)
      (λ q. (refused bad_roll 0, at_roll (rw (eqb-true n bad_roll q) at s)))
      λ b. by-test (eqb n empty_board)
      (λ q. (refused empty_board 0, at_empty (rw (eqb-true n empty_board q) at s)))
      (λ q. (unread n, at_start n s (eqb-false n bad_roll b) (eqb-false n empty_board q)))

  -- the audit's outcome is the one for which there is a reason
  pub answers : (o : Outcome) → (audit f ws vs roll index ballots ≡ o) ↔ Answers f ws vs roll index ballots o
  answers o =
      let (p, a) = some-answer in
      (λ e. subst (Answers f ws vs roll index ballots) (sym (answered a) ∙ e) a, answered)

  -- there is one, and no other
  pub one_answer : (o : Outcome) × Answers f ws vs roll index ballots o × ((p : Outcome) → Answers f ws vs roll index ballots p → p ≡ o)
  one_answer = (audit f ws vs roll index ballots, (answers _).0 refl, λ p a. sym (answered a))
