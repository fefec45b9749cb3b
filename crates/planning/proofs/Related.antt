-- The audit of the same words: in every case how its answer relates to what is read of the heads. Paper: request (x), "For every accepted board".
-- Assumes nothing.
use Prim.Native.Nat.{ℕ, suc, ◌-◌, ◌*◌, ◌≤◌, ◌<◌}
use native.Mathlib.Omega.{arith}
use mathlib.Core.Path.{◌≡◌, refl, sym, ap, subst, ◌∙◌}
use mathlib.Core.Logic.{◌≢◌, ◌↔◌, ◌⊎◌, inl, inr}
use mathlib.Core.Bool.{not}
use mathlib.Core.List.{List, [], ◌∷◌}
use lib.ListN.{length, length-append}
use lib.Dec.{T}
use Rattle.model.specs.Lists.{any, has}
use Rattle.model.specs.Refusal.{no_fault, too_large, empty_board, truncated, unknown_type, wrong_count, bad_closing, bad_roll}
use Rattle.model.specs.Format.{Format, verdict_size}
use Rattle.model.specs.History.{History, place_of, history}
use Rattle.model.specs.Roll.{is_bad_roll, on_roll}
use Rattle.model.specs.Audit.{Outcome, unread, refused, accepted, audit, item_limit, is_too_large, is_short, is_empty, is_closed, closing_ok}
use Rattle.model.specs.Reasons.{Reason, NoneOf, FirstOf, start_reasons, ClosesAt, HeadAt, head_reasons, item_reasons, closing_reasons, Reached, Answers}
use Rattle.model.proofs.Tests.{eq→eqb, by-test, passes, and-iff, neither, not-not, not_iff, by-if, if_yes}
use Rattle.model.proofs.Lists.{Every}
use Rattle.model.proofs.Distinct.{has-every}
use Rattle.model.proofs.FirstReason.{first_number, by_first, none_number, first-number, every_first, first-before, number_behind, none_before}
use Rattle.model.proofs.Acceptance.{not-unread, not-refused}
use Rattle.model.proofs.Refusals.{reading-counts}
use Rattle.model.proofs.Keys.{length-verdicts}
use Rattle.model.proofs.Unchecked.{length-history}
use Rattle.model.proofs.Reasons as reasons
use Rattle.model.proofs.FirstItems.{first-items}
use Rattle.planning.specs.Plan.{head_only, closed_only, heads_read, HeadsPass, PlanAnswers, later_refusals, items_in, Related, alike, no_table, no_roll, later, left_over}
use Rattle.planning.specs.Plan as plan
use Rattle.planning.proofs.Heads.{pass-few, reached, further, answered, answers}

-- ---- the heads' own answers

-- the numbers of a plan that is a refusal
abbrev head_numbers : List ℕ
head_numbers = too_large ∷ empty_board ∷ truncated ∷ unknown_type ∷ wrong_count ∷ bad_closing ∷ []

module _ (f : Format) (ws : List ℕ) where
  abbrev Large : Outcome → Type 0
  Large (unread n) = T (is_too_large ws)
  Large (refused n k) = Unit
  Large (accepted h) = Unit

  large-of : {o : Outcome} → PlanAnswers f ws o → Large o
  large-of (plan.at_start t) = t
  large-of (plan.at_empty t u) = tt
  large-of (plan.at_end k r end) = tt
  large-of (plan.at_head n k r head s) = tt
  large-of (plan.at_closing k r last t) = tt
  large-of (plan.acceptance k r last t) = tt

  -- 1's word limit, exactly where there are too many words
  pub large_is : (n : ℕ) → heads_read f ws ≡ unread n → T (is_too_large ws)
  large_is n e = large-of ((answers f ws _).0 e)

  not-large : T (not (is_too_large ws)) → heads_read f ws ≢ unread too_large
  not-large t e = (not_iff (is_too_large ws)).0 t (large_is too_large e)

  -- it has one of these numbers
  abbrev HeadNumber : Outcome → Type 0
  HeadNumber (unread n) = Unit
  HeadNumber (refused n k) = T (has n head_numbers)
  HeadNumber (accepted h) = Unit

  number_of : {o : Outcome} → PlanAnswers f ws o → HeadNumber o
  unfolding any
  number_of (plan.at_start t) = tt
  number_of (plan.at_empty t u) = tt
  number_of (plan.at_end k r end) = tt
  number_of (plan.at_head n k r head s) = every_first (λ m. T (has m head_numbers)) (tt, (tt, (tt, (tt, tt)))) s
  number_of (plan.at_closing k r last t) = tt
  number_of (plan.acceptance k r last t) = tt

  pub head-number : (n k : ℕ) → heads_read f ws ≡ refused n k → T (has n head_numbers)
  head-number n k e = number_of ((answers f ws _).0 e)

  -- where the heads of k items pass, so many are counted
  pub counted : (k : ℕ) → HeadsPass f ws k → k ≤ items_in (heads_read f ws)
  counted k r =
      subst (λ (o : Outcome). k ≤ items_in o) (sym (reached f ws k r))
      (reading-counts (λ o. k ≤ items_in o) k (λ n j l. l) (λ h l. l) f ws (closed_only f ws) (head_only f ws) (item_limit - k) (history f ws k) (place_of f ws k)
      (omega (arith, length-history f ws k)))

-- ---- the audit's answers, one by one

-- the first of some reasons with the numbers of later refusals
later-number : (rs : List Reason) (n : ℕ) → Every (λ r. T (has r.number later_refusals)) rs → first_number rs ≡ n → n ≢ no_fault → T (has n later_refusals)
later-number rs n all e some =
    by_first rs (λ u. absurd (some (sym e ∙ none_number rs u)))
    (λ m t. subst (λ (x : ℕ). T (has x later_refusals)) (sym (first-number t) ∙ e) (every_first (λ m. T (has m later_refusals)) all t))

module _ (f : Format) (ws vs roll : List ℕ) (index ballots : ℕ) where
  abbrev heads : Outcome
  heads = heads_read f ws

  abbrev starts : ℕ
  starts = first_number (start_reasons ws roll index ballots)

  abbrev Relates : Outcome → Type 0
  Relates = Related vs heads

  -- the same answer
  same : {o : Outcome} → PlanAnswers f ws o → Relates o
  same a = subst Relates (answered f ws a) alike

  -- before the items
  start : (n : ℕ) → starts ≡ n → n ≢ no_fault → n ≢ bad_roll → n ≢ empty_board → Relates (unread n)
  unfolding start_reasons first_number
  start n e some bad other =
      let Goal : ℕ → Type 0 = λ m. m ≡ n → Relates (unread n) in
      by-if Goal (is_too_large ws) _ _ (λ t q. rw (sym q) (same (plan.at_start t)))
      (λ t. by-if Goal (is_short index ballots) _ _ (λ u q. rw (sym q) (no_table (not-large f ws t)))
      λ u. by-if Goal (is_bad_roll roll) _ _ (λ v q. absurd (bad (sym q)))
      λ v. by-if Goal (is_empty ws) _ _ (λ w q. absurd (other (sym q))) (λ w q. absurd (some (sym q))))
      e

  short-before : (n : ℕ) → starts ≡ n → n ≢ too_large → T (not (is_too_large ws))
  unfolding start_reasons first_number
  short-before n e other =
      by-if (λ (m : ℕ). m ≡ n → T (not (is_too_large ws))) (is_too_large ws) _ _ (λ t q. absurd (other (sym q))) (λ t q. t) e

  empty-at : starts ≡ empty_board → T (is_empty ws)
  unfolding start_reasons first_number
  empty-at =
      let Goal : ℕ → Type 0 = λ m. m ≡ empty_board → T (is_empty ws) in
      by-if Goal (is_too_large ws) _ _ (λ t q. absurd (omega arith))
      λ t. by-if Goal (is_short index ballots) _ _ (λ u q. absurd (omega arith))
      λ u. by-if Goal (is_bad_roll roll) _ _ (λ v q. absurd (omega arith))
      λ v. by-if Goal (is_empty ws) _ _ (λ w q. w) (λ w q. absurd (omega arith))

  -- the heads of items that pass, pass
  heads-pass : (k : ℕ) → Reached f ws vs roll index ballots k → HeadsPass f ws k
  unfolding any start_reasons item_reasons
  heads-pass k r =
      let (short, rest) = (neither (is_too_large ws) _).0 r.started in
      let (tables, others) = (neither (is_short index ballots) _).0 rest in
      let (good, last) = (neither (is_bad_roll roll) _).0 others in
      record {
        short = short;
        begun = ((neither (is_empty ws) _).0 last).0;
        passed = λ j l. let (head, u) = r.passed j l in (head, none_before (item_reasons f (on_roll roll) ws vs j) (head_reasons f ws j) _ refl u);
      }

  -- an item that is refused: by its head, as in a plan, or later
  item : (n k : ℕ) → Reached f ws vs roll index ballots k → HeadAt f ws k → FirstOf (item_reasons f (on_roll roll) ws vs k) n → Relates (refused n k)
  unfolding item_reasons any
  item n k r head s =
      let pass = heads-pass k r in
      by_first (head_reasons f ws k)
      (λ u. later n k
      (later-number _ n (tt, (tt, (tt, (tt, (tt, (tt, (tt, (tt, (tt, (tt, (tt, tt)))))))))))
      (sym (number_behind (head_reasons f ws k) _ u) ∙ first-number s) (reasons.some_number f (on_roll roll) ws vs k s))
      (counted f ws (suc k) (further f ws k pass head u)))
      (λ m t. subst (λ (x : ℕ). Relates (refused x k)) (sym (first-number (first-before _ t)) ∙ first-number s) (same (plan.at_head m k pass head t)))

  module _ (k : ℕ) (r : Reached f ws vs roll index ballots k) (last : ClosesAt f ws k) where
    abbrev h : History
    h = history f ws k

    -- nine verdict words for each item are there
    verdicts-there : verdict_size * length h ≤ length vs
    verdicts-there =
        let b = (first-items f (on_roll roll) ws vs k (pass-few f ws k (heads-pass k r))).0 r.passed in
        omega (arith, ap length b.of_verdicts, length-append b.verdicts b.verdicts_left, length-verdicts b.passed)

    left_over_lem : T (is_closed ws k (place_of f ws k)) → T (not (closing_ok ws vs h (place_of f ws k))) → verdict_size * length h < length vs
    left_over_lem t bad =
        let good : T (is_closed ws (length h) (place_of f ws k)) = rw (length-history f ws k) t in
        let other : verdict_size * length h ≢ length vs =
        λ e. (not_iff (closing_ok ws vs h (place_of f ws k))).0 bad
        ((and-iff (is_closed ws (length h) (place_of f ws k)) _).1 (good, eq→eqb (verdict_size * length h) (length vs) e)) in
        omega (arith, verdicts-there)

    -- at the closing word
    closing-bad : T (not (closing_ok ws vs h (place_of f ws k))) → Relates (refused bad_closing k)
    closing-bad bad =
        let pass = heads-pass k r in
        by-test (is_closed ws k (place_of f ws k))
        (λ q. subst (λ (n : ℕ). Relates (refused bad_closing n)) (length-history f ws k)
        (left_over h (answered f ws (plan.acceptance k pass last (passes q))) (left_over_lem (passes q) bad)))
        (λ q. same (plan.at_closing k pass last (rw q tt)))

    closing : (n : ℕ) → FirstOf (closing_reasons f ws vs k) n → Relates (refused n k)
    unfolding closing_reasons first_number
    closing n s =
        let some = every_first (λ m. m ≢ no_fault) (omega arith) s in
        by-if (λ (m : ℕ). m ≡ n → Relates (refused n k)) (not (closing_ok ws vs h (place_of f ws k))) _ _
        (λ t q. rw (sym q) (closing-bad t)) (λ t q. absurd (some (sym q))) (first-number s)

    closing-good : NoneOf (closing_reasons f ws vs k) → Relates (accepted h)
    unfolding closing_reasons any
    closing-good u =
        let ok = (not-not (closing_ok ws vs h (place_of f ws k))).0 ((neither (not (closing_ok ws vs h (place_of f ws k))) _).0 u).0 in
        same (plan.acceptance k (heads-pass k r) last (rw (length-history f ws k) at ((and-iff (is_closed ws (length h) (place_of f ws k)) _).0 ok).0))

  related : {o : Outcome} → Answers f ws vs roll index ballots o → Relates o
  unfolding start_reasons
  related (Answers.at_start n s bad other) = start n (first-number s) (every_first (λ m. m ≢ no_fault) (omega arith) s) bad other
  related (Answers.at_roll s) = no_roll (not-large f ws (short-before bad_roll (first-number s) (omega arith)))
  related (Answers.at_empty s) = same (plan.at_empty (short-before empty_board (first-number s) (omega arith)) (empty-at (first-number s)))
  related (Answers.at_end k r end) = same (plan.at_end k (heads-pass k r) end)
  related (Answers.at_item n k r head s) = item n k r head s
  related (Answers.at_closing n k r last s) = closing k r last n s
  related (Answers.acceptance k r last u) = closing-good k r last u

  pub plan-related : Relates (audit f ws vs roll index ballots)
  plan-related = related ((reasons.answers f ws vs roll index ballots _).0 refl)

-- ---- so, by the audit's answer

abbrev number_in : Outcome → ℕ
number_in (unread n) = n
number_in (refused n k) = n
number_in (accepted h) = no_fault

abbrev IsUnread : Outcome → Type 0
IsUnread (unread n) = Unit
IsUnread (refused n k) = ⊥
IsUnread (accepted h) = ⊥

unread-refused : {m n k : ℕ} → unread m ≡ refused n k → ⊥
unread-refused e = subst IsUnread e tt

refusal-of : {m j n k : ℕ} → refused m j ≡ refused n k → (m ≡ n) × (j ≡ k)
refusal-of e = (ap number_in e, ap items_in e)

-- the numbers of the later refusals
later-least : (n : ℕ) → T (has n later_refusals) → 7 ≤ n
later-least n t = has-every (7 ≤◌) n later_refusals (omega arith) t

later-other : (n : ℕ) → T (has n later_refusals) → (n ≢ bad_roll) × (n ≢ bad_closing)
later-other n t = has-every (λ m. (m ≢ bad_roll) × (m ≢ bad_closing)) n later_refusals (omega arith) t

no-later : (n : ℕ) → T (has n head_numbers) → T (has n later_refusals) → ⊥
unfolding any
no-later n h t =
    has-every (λ m. T (has m later_refusals) → ⊥) n head_numbers
    ((λ u. u), ((λ u. u), ((λ u. u), ((λ u. u), ((λ u. u), ((λ u. u), tt)))))) h t

module _ {vs : List ℕ} {heads : Outcome} where
  pub accepted-too : {o : Outcome} → Related vs heads o → (h : History) → o ≡ accepted h → heads ≡ accepted h
  accepted-too alike h e = e
  accepted-too (no_table other) h e = absurd (not-unread e)
  accepted-too (no_roll other) h e = absurd (not-refused e)
  accepted-too (later n k t l) h e = absurd (not-refused e)
  accepted-too (left_over g q l) h e = absurd (not-refused e)

  pub refused-too : {o : Outcome} → Related vs heads o → (n k : ℕ) → n < 7 → o ≡ refused n k → heads ≡ refused n k
  refused-too alike n k l e = e
  refused-too (no_table other) n k l e = absurd (unread-refused e)
  refused-too (no_roll other) n k l e = absurd (omega (arith, (refusal-of e).0))
  refused-too (later m j t more) n k l e = absurd (omega (arith, (refusal-of e).0, later-least m t))
  refused-too (left_over h q more) n k l e = absurd (omega (arith, (refusal-of e).0))

  pub large-too : {o : Outcome} → Related vs heads o → o ≡ unread too_large → heads ≡ unread too_large
  large-too alike e = e
  large-too (no_table other) e = absurd (omega (arith, ap number_in e))
  large-too (no_roll other) e = absurd (unread-refused (sym e))
  large-too (later n k t l) e = absurd (unread-refused (sym e))
  large-too (left_over h q l) e = absurd (unread-refused (sym e))

  -- where the heads themselves do not give the number
  pub later-too : {o : Outcome} → Related vs heads o → (n k : ℕ) → (heads ≢ refused n k) → n ≢ bad_roll → n ≢ bad_closing → o ≡ refused n k → k < items_in heads
  later-too alike n k none bad early e = absurd (none e)
  later-too (no_table other) n k none bad early e = absurd (unread-refused e)
  later-too (no_roll other) n k none bad early e = absurd (bad (sym (refusal-of e).0))
  later-too (later m j t l) n k none bad early e = subst (◌< items_in heads) (refusal-of e).1 l
  later-too (left_over h q l) n k none bad early e = absurd (early (sym (refusal-of e).0))

  pub closing-too : {o : Outcome} → Related vs heads o → (k : ℕ) → o ≡ refused bad_closing k
      → (heads ≡ refused bad_closing k) ⊎ ((h : History) × (heads ≡ accepted h) × (length h ≡ k) × (verdict_size * k < length vs))
  closing-too alike k e = inl e
  closing-too (no_table other) k e = absurd (unread-refused e)
  closing-too (no_roll other) k e = absurd (omega (arith, (refusal-of e).0))
  closing-too (later m j t l) k e = absurd ((later-other m t).1 (refusal-of e).0)
  closing-too (left_over h q l) k e =
      let size = (refusal-of e).1 in inr (h, q, size, subst (λ (n : ℕ). verdict_size * n < length vs) size l)

module _ (f : Format) (ws vs roll : List ℕ) (index ballots : ℕ) where
  abbrev audited : Outcome
  audited = audit f ws vs roll index ballots

  pub plan-accepted : (h : History) → audited ≡ accepted h → heads_read f ws ≡ accepted h
  plan-accepted = accepted-too (plan-related f ws vs roll index ballots)

  pub plan-refused : (n k : ℕ) → T (has n (1 ∷ 3 ∷ 5 ∷ 6 ∷ 4 ∷ [])) → audited ≡ refused n k → heads_read f ws ≡ refused n k
  plan-refused n k t = refused-too (plan-related f ws vs roll index ballots) n k (has-every (◌< 7) n (1 ∷ 3 ∷ 5 ∷ 6 ∷ 4 ∷ []) (omega arith) t)

  pub plan-large : (audited ≡ unread 1) ↔ (heads_read f ws ≡ unread 1)
  unfolding audit
  plan-large = (large-too (plan-related f ws vs roll index ballots), λ e. if_yes (is_too_large ws) _ _ (large_is f ws 1 e))

  pub plan-later : (n k : ℕ) → T (has n later_refusals) → audited ≡ refused n k → k < items_in (heads_read f ws)
  plan-later n k t =
      let (bad, early) = later-other n t in
      later-too (plan-related f ws vs roll index ballots) n k (λ e. no-later n (head-number f ws n k e) t) bad early

  pub plan-closing : (k : ℕ) → audited ≡ refused 18 k
      → (heads_read f ws ≡ refused 18 k) ⊎ ((h : History) × (heads_read f ws ≡ accepted h) × (length h ≡ k) × (9 * k < length vs))
  plan-closing = closing-too (plan-related f ws vs roll index ballots)

  pub refused-both : (n k : ℕ) → heads_read f ws ≡ refused n k → (h : History) → audited ≢ accepted h
  refused-both n k e h a = not-refused (sym e ∙ plan-accepted h a)
