-- The heads of a board, read: every answer for its reason, and exactly one; what is planned where they pass; and that it depends on the heads alone. Paper: request (x).
-- Assumes nothing.
use Prim.Native.Nat.{ℕ, zero, suc, ◌+◌, ◌*◌, ◌≤◌, ◌<◌}
use native.Mathlib.Nat.{not-suc-le-zero, le_of_eq}
use native.Mathlib.Omega.{arith}
use native.Mathlib.Decide.{dec_le}
use mathlib.Core.Path.{◌≡◌, refl, sym, ap, ap₂, subst, ◌∙◌}
use mathlib.Core.Logic.{◌≢◌, ◌↔◌, by_cases}
use mathlib.Core.Bool.{not}
use mathlib.Core.Option.{Option, none, some}
use mathlib.Core.List.{List, [], ◌∷◌, ◌++◌}
use lib.ListN.{length, get_or}
use lib.Dec.{T, leb, ltb, nleb→lt, lt→ltb, ltb→lt}
use Rattle.model.specs.Lists.{if◌then◌otherwise◌, any}
use Rattle.model.specs.Words.{is_closing, count_of}
use Rattle.model.specs.Refusal.{no_fault, too_large, empty_board, truncated, bad_closing}
use Rattle.model.specs.Format.{Format}
use Rattle.model.specs.Item.{item_at, item_length, behind}
use Rattle.model.specs.Types.{Row, row_of, fits}
use Rattle.model.specs.History.{History, Entry, entry_of, place_of, history}
use Rattle.model.specs.Traits.{traits_of, curve_number, format_with}
use Rattle.model.specs.Audit.{Outcome, unread, refused, accepted, item_limit, head_fault, closing, is_too_large, is_empty, is_closed}
use Rattle.model.specs.Reasons.{NoneOf, FirstOf, listed_with, ClosesAt, HeadAt, head_reasons}
use Rattle.model.specs.Sound.{Shaped}
use Rattle.model.proofs.Tests.{tests, by-test, passes, neither, not-not, by-if, if_yes, if_no}
use Rattle.model.proofs.FirstReason.{first_number, by_first, none_number, first-number, every_first}
use Rattle.model.proofs.Lists.{Every, every-snoc}
use Rattle.model.proofs.Parsing.{shaped-at}
use Rattle.model.proofs.Unchecked.{length-history}
use Rattle.model.proofs.Steps.{reading_from, from_start, from-ended, from-closing, from-full, from-refused, from-passed}
use Rattle.format.specs.Format.{hashes, format_of, curve_number_of}
use Rattle.planning.specs.Plan.{head_only, closed_only, heads_read, hash_on, blocks_for, Plan, sum_of, blocks_at, plan_of, plan, HeadsPass, PlanAnswers, at_start, at_empty, at_end, at_head, at_closing, acceptance, items_in}

-- ---- a head's fault is its first reason's number

module _ (f : Format) (ws : List ℕ) (k : ℕ) where
  -- 5, 6, 4 or none, of the head behind the first k items
  abbrev fault_here : Option Row → ℕ
  fault_here row = head_fault f ws row (place_of f ws k) (λ r. no_fault)

  by_row : (row : Option Row) → row_of f (get_or ws (place_of f ws k) 0) ≡ row
      → first_number (head_reasons f ws k) ≡ (if leb item_limit k then too_large otherwise fault_here row)
  unfolding listed_with first_number head_fault
  by_row none q = rw q
  by_row (some r) q = rw q

  full-number : item_limit ≤ k → first_number (head_reasons f ws k) ≡ too_large
  full-number l = by_row _ refl ∙ if_yes (leb item_limit k) _ _ (omega (arith, tests))

  fault-number : k < item_limit → head_only f ws (history f ws k) (place_of f ws k) ≡ first_number (head_reasons f ws k)
  fault-number l = sym (by_row _ refl ∙ if_no (leb item_limit k) _ _ (omega (arith, tests)))

  pub few : NoneOf (head_reasons f ws k) → k < item_limit
  unfolding any
  few u = nleb→lt item_limit k ((neither (leb item_limit k) _).0 u).0

  some_number : {n : ℕ} → FirstOf (head_reasons f ws k) n → n ≢ no_fault
  some_number s = every_first (λ n. n ≢ no_fault) (omega arith) s

  -- 1 is no fault of a head
  not-large : (row : Option Row) → fault_here row ≢ too_large
  unfolding head_fault
  not-large none = λ e. omega arith
  not-large (some r) =
      by-if (λ n. n ≢ too_large) (not (fits r.counts (count_of (get_or ws (place_of f ws k) 0)))) _ _ (λ t e. omega arith)
      λ t. by-if (λ n. n ≢ too_large) (ltb (length ws) (behind f ws (place_of f ws k))) _ _ (λ u e. omega arith) (λ u e. omega arith)

  -- so it is given at the item limit alone
  large-full : FirstOf (head_reasons f ws k) too_large → item_limit ≤ k
  large-full s =
      by_cases (dec_le item_limit k) (λ l. l)
      (λ l. absurd (not-large (row_of f (get_or ws (place_of f ws k) 0)) (fault-number (omega arith) ∙ first-number s)))

-- ---- along the reasons

module _ (f : Format) (ws : List ℕ) (k : ℕ) where
  -- the answer from k items on
  abbrev pub heads_from : ℕ → Outcome
  heads_from = reading_from f ws (closed_only f ws) (head_only f ws)

  head_passed : HeadAt f ws k → NoneOf (head_reasons f ws k) → heads_from k ≡ heads_from (suc k)
  head_passed (there, head) u =
      let small = few f ws k u in
      from-passed f ws (closed_only f ws) (head_only f ws) k there head small (fault-number f ws k small ∙ none_number _ u)

  head-refused : (n : ℕ) → HeadAt f ws k → FirstOf (head_reasons f ws k) n → heads_from k ≡ refused n k
  head-refused n (there, head) s =
      by_cases (dec_le item_limit k)
      (λ l. rw (sym (first-number s) ∙ full-number f ws k l) (from-full f ws (closed_only f ws) (head_only f ws) k there head l))
      (λ l. from-refused f ws (closed_only f ws) (head_only f ws) k there head (omega arith) n
      (fault-number f ws k (omega arith) ∙ first-number s) (some_number f ws k s))

  closing-refused : ClosesAt f ws k → T (not (is_closed ws k (place_of f ws k))) → heads_from k ≡ refused bad_closing k
  unfolding closing
  closing-refused (there, last) t =
      from-closing f ws (closed_only f ws) (head_only f ws) k there last
      ∙ if_yes (not (closed_only f ws (history f ws k) (place_of f ws k))) _ _ (rw (length-history f ws k) t)
      ∙ ap (refused bad_closing) (length-history f ws k)

  closing-accepted : ClosesAt f ws k → T (is_closed ws k (place_of f ws k)) → heads_from k ≡ accepted (history f ws k)
  unfolding closing
  closing-accepted (there, last) t =
      from-closing f ws (closed_only f ws) (head_only f ws) k there last
      ∙ if_no (not (closed_only f ws (history f ws k) (place_of f ws k))) _ _
      ((not-not (closed_only f ws (history f ws k) (place_of f ws k))).1 (rw (length-history f ws k) t))

module _ (f : Format) (ws : List ℕ) where
  -- before the items
  start-large : T (is_too_large ws) → heads_read f ws ≡ unread too_large
  unfolding heads_read
  start-large t = if_yes (is_too_large ws) _ _ t

  start-empty : T (not (is_too_large ws)) → T (is_empty ws) → heads_read f ws ≡ refused empty_board 0
  unfolding heads_read
  start-empty t u = if_no (is_too_large ws) _ _ t ∙ if_yes (is_empty ws) _ _ u

  -- the heads of the first k items pass
  pub reached : (k : ℕ) → HeadsPass f ws k → heads_read f ws ≡ heads_from f ws k k
  unfolding heads_read
  reached zero r = if_no (is_too_large ws) _ _ r.short ∙ if_no (is_empty ws) _ _ r.begun ∙ from_start f ws (closed_only f ws) (head_only f ws)
  reached (suc k) r =
      let last = r.passed k (omega arith) in
      let before : HeadsPass f ws k = record { short = r.short; begun = r.begun; passed = λ j l. r.passed j (omega arith) } in
      reached k before ∙ head_passed f ws k last.0 last.1

  pub answered : {o : Outcome} → PlanAnswers f ws o → heads_read f ws ≡ o
  answered (at_start t) = start-large t
  answered (at_empty t u) = start-empty t u
  answered (at_end k r end) = reached k r ∙ from-ended f ws (closed_only f ws) (head_only f ws) k end
  answered (at_head n k r head s) = reached k r ∙ head-refused f ws k n head s
  answered (at_closing k r last t) = reached k r ∙ closing-refused f ws k last t
  answered (acceptance k r last t) = reached k r ∙ closing-accepted f ws k last t

  abbrev Answered : Type 0
  Answered = (o : Outcome) × PlanAnswers f ws o

  pub further : (k : ℕ) → HeadsPass f ws k → HeadAt f ws k → NoneOf (head_reasons f ws k) → HeadsPass f ws (suc k)
  further k r head u = record {
    short = r.short;
    begun = r.begun;
    passed = λ j l. by_cases (dec_le (suc j) k) (λ m. r.passed j m) (λ m. let same : j ≡ k = omega arith in rw same (head, u));
  }

  -- those that pass are no more than the item limit
  pub pass-few : (k : ℕ) → HeadsPass f ws k → k ≤ item_limit
  pass-few zero r = omega arith
  pass-few (suc k) r = few f ws k (r.passed k (omega arith)).1

  -- behind the first k items there is an answer, or another item whose head passes
  by_word : (k : ℕ) → HeadsPass f ws k → (HeadAt f ws k → NoneOf (head_reasons f ws k) → Answered) → Answered
  by_word k r next =
      by_cases (dec_le (length ws) (place_of f ws k)) (λ end. (refused truncated k, at_end k r end))
      λ l.
      let there : place_of f ws k < length ws = omega arith in
      by-test (is_closing (get_or ws (place_of f ws k) 0))
      (λ q. by-test (is_closed ws k (place_of f ws k))
      (λ c. (accepted (history f ws k), acceptance k r (there, passes q) (passes c)))
      (λ c. (refused bad_closing k, at_closing k r (there, passes q) (rw c tt))))
      (λ q. by_first (head_reasons f ws k) (next (there, rw q tt)) (λ n s. (refused n k, at_head n k r (there, rw q tt) s)))

  -- where m more items are allowed
  by-items : (m k : ℕ) → m + k ≡ item_limit → HeadsPass f ws k → Answered
  by-items zero k e r = by_word k r (λ head u. absurd (omega (arith, few f ws k u)))
  by-items (suc m) k e r = by_word k r (λ head u. by-items m (suc k) (omega arith) (further k r head u))

  some-answer : Answered
  some-answer =
      by-test (is_too_large ws) (λ q. (unread too_large, at_start (passes q)))
      λ q. by-test (is_empty ws) (λ e. (refused empty_board 0, at_empty (rw q tt) (passes e)))
      (λ e. by-items item_limit 0 refl (record { short = rw q tt; begun = rw e tt; passed = λ j l. absurd (not-suc-le-zero l) }))

  pub answers : (o : Outcome) → (heads_read f ws ≡ o) ↔ PlanAnswers f ws o
  answers o =
      let (p, a) = some-answer in
      (λ e. subst (PlanAnswers f ws) (sym (answered a) ∙ e) a, answered)

  pub one_answer : (o : Outcome) × PlanAnswers f ws o × ((p : Outcome) → PlanAnswers f ws p → p ≡ o)
  one_answer = (heads_read f ws, (answers _).0 refl, λ p a. sym (answered a))

-- ---- the plan of a refusal

pub refused-plan : (ws : List ℕ) (n k : ℕ) → heads_read (format_of ws) ws ≡ refused n k → plan ws ≡ record { number = n; items = k; index_words = 0; blocks = 0 }
unfolding plan_of
refused-plan ws n k e = ap (plan_of (format_of ws) (blocks_for (hash_on (curve_number_of ws)))) e

-- the plan's number and items are those of the word limit alone where it is passed
module _ (f : Format) (ws : List ℕ) (blocks : ℕ → ℕ) where
  is-large : {o : Outcome} → PlanAnswers f ws o → (plan_of f blocks o).number ≡ too_large → (plan_of f blocks o).items ≡ 0 → T (is_too_large ws)
  unfolding plan_of
  is-large (at_start t) e z = t
  is-large (at_empty t u) e z = absurd (omega arith)
  is-large (at_end k r end) e z = absurd (omega arith)
  is-large (at_head n k r head s) e z = absurd (omega (arith, large-full f ws k (subst (FirstOf (head_reasons f ws k)) e s)))
  is-large (at_closing k r last t) e z = absurd (omega arith)
  is-large (acceptance k r last t) e z = absurd (omega arith)

pub large-plan : (ws : List ℕ) → (262144 < length ws) ↔ (plan ws ≡ record { number = 1; items = 0; index_words = 0; blocks = 0 })
unfolding plan_of
large-plan ws =
    let f = format_of ws in
    let blocks = blocks_for (hash_on (curve_number_of ws)) in (
      λ l. ap (plan_of f blocks) (answered f ws (at_start (lt→ltb 262144 (length ws) l))),
      λ e. ltb→lt 262144 (length ws) (is-large f ws blocks ((answers f ws _).0 refl) (ap (λ (p : Plan). p.number) e) (ap (λ (p : Plan). p.items) e)),
    )

-- ---- the plan of a board whose heads pass

pub passed-plan : (ws : List ℕ) (h : History) → heads_read (format_of ws) ws ≡ accepted h
    → ((plan ws).number ≡ 0) × ((plan ws).items ≡ length h) × ((plan ws).index_words ≡ 5 * length h)
unfolding plan_of
passed-plan ws h e =
    let is = ap (plan_of (format_of ws) (blocks_for (hash_on (curve_number_of ws)))) e in
    (ap (λ (p : Plan). p.number) is, ap (λ (p : Plan). p.items) is, ap (λ (p : Plan). p.index_words) is)

-- the item behind the first k lies within the board
whole : (f : Format) (ws : List ℕ) (k : ℕ) → NoneOf (head_reasons f ws k) → behind f ws (place_of f ws k) ≤ length ws
unfolding any
whole f ws k u = let all = simp neither at u in omega (arith, tests)

-- so each item that is read has its shape
shaped-first : (f : Format) (ws : List ℕ) (k : ℕ) → ((j : ℕ) → j < k → HeadAt f ws j × NoneOf (head_reasons f ws j))
    → Every (λ e. Shaped f e.item) (history f ws k)
unfolding history entry_of
shaped-first f ws zero passed = tt
shaped-first f ws (suc k) passed =
    every-snoc (λ e. Shaped f e.item) (history f ws k) _ (shaped-first f ws k (λ j l. passed j (omega arith)))
    (shaped-at f ws (place_of f ws k) (whole f ws k (passed k (omega arith)).1))

abbrev ShapedIn : Format → Outcome → Type 0
ShapedIn f (unread n) = Unit
ShapedIn f (refused n k) = Unit
ShapedIn f (accepted h) = Every (λ e. Shaped f e.item) h

shaped_in : (f : Format) (ws : List ℕ) {o : Outcome} → PlanAnswers f ws o → ShapedIn f o
shaped_in f ws (at_start t) = tt
shaped_in f ws (at_empty t u) = tt
shaped_in f ws (at_end k r end) = tt
shaped_in f ws (at_head n k r head s) = tt
shaped_in f ws (at_closing k r last t) = tt
shaped_in f ws (acceptance k r last t) = shaped-first f ws k r.passed

pub shaped-read : (f : Format) (ws : List ℕ) (h : History) → heads_read f ws ≡ accepted h → Every (λ e. Shaped f e.item) h
shaped-read f ws h e = shaped_in f ws ((answers f ws (accepted h)).0 e)

-- ---- sums

pub sum_is : {A : Type 0} (g : A → ℕ) → (sum_of g [] ≡ 0) × ((x : A) (xs : List A) → sum_of g (x ∷ xs) ≡ g x + sum_of g xs)
unfolding sum_of
sum_is g = (refl, λ x xs. refl)

pub sum-append : {A : Type 0} (g : A → ℕ) (xs ys : List A) → sum_of g (xs ++ ys) ≡ sum_of g xs + sum_of g ys
unfolding sum_of
sum-append g [] ys = omega arith
sum-append g (x ∷ xs) ys = omega (arith, sum-append g xs ys)

-- ---- the heads alone

same-fields : {p q : Plan} → p.number ≡ q.number → p.items ≡ q.items → p.index_words ≡ q.index_words → p.blocks ≡ q.blocks → p ≡ q
same-fields n i w b = λ t. record { number = n t; items = i t; index_words = w t; blocks = b t }

-- words of one length with the same word behind the first n items, for each n up to m
module _ (f : Format) (ws us : List ℕ) (long : length ws ≡ length us) (m : ℕ)
    (same : (n : ℕ) → n ≤ m → get_or ws (place_of f ws n) 0 ≡ get_or us (place_of f ws n) 0) where
  same_place : (n : ℕ) → n ≤ suc m → place_of f ws n ≡ place_of f us n
  unfolding place_of
  same_place zero l = refl
  same_place (suc n) l =
      let p = place_of f ws n in
      ap (λ (w : ℕ). p + item_length f (count_of w)) (same n (omega arith)) ∙ ap (λ (q : ℕ). behind f us q) (same_place n (omega arith))

  same_head : (n : ℕ) → n ≤ m → HeadAt f ws n → HeadAt f us n
  same_head n l a = rw (← long, ← same_place n (omega arith), ← same n l) a

  same-reasons : (n : ℕ) → n ≤ m → head_reasons f us n ≡ head_reasons f ws n
  same-reasons n l = rw (← long, ← same_place n (omega arith), ← same n l) refl

  same-closing : (n : ℕ) → n ≤ m → ClosesAt f ws n → ClosesAt f us n
  same-closing n l a = rw (← long, ← same_place n (omega arith), ← same n l) a

  same-closed : (n : ℕ) → n ≤ m → is_closed us n (place_of f us n) ≡ is_closed ws n (place_of f ws n)
  same-closed n l = rw (← long, ← same_place n (omega arith), ← same n l) refl

  same-empty : is_empty us ≡ is_empty ws
  unfolding place_of
  same-empty = rw (← long, ← same 0 (omega arith)) refl

  same-pass : (k : ℕ) → k ≤ m → HeadsPass f ws k → HeadsPass f us k
  same-pass k l r =
      record {
        short = rw (← long) r.short;
        begun = rw same-empty r.begun;
        passed = λ j before. let (head, u) = r.passed j before in (same_head j (omega arith) head, rw (same-reasons j (omega arith)) u);
      }

  module _ (blocks : ℕ → ℕ) where
    -- the blocks of an address depend on the head
    same_blocks : (d e : Entry) → d.item.head ≡ e.item.head → blocks_at f blocks d ≡ blocks_at f blocks e
    same_blocks d e q = rw q refl

    -- item k + 1
    abbrev made : List ℕ → ℕ → Entry
    made zs k = entry_of (history f zs k) (place_of f zs k) (item_at f zs (place_of f zs k))

    same_sum : (k : ℕ) → k ≤ suc m → sum_of (blocks_at f blocks) (history f ws k) ≡ sum_of (blocks_at f blocks) (history f us k)
    unfolding history sum_of entry_of item_at
    same_sum zero l = refl
    same_sum (suc k) l =
        let word = same k (omega arith) ∙ ap (λ (p : ℕ). get_or us p 0) (same_place k (omega arith)) in
        sum-append (blocks_at f blocks) (history f ws k) _
        ∙ ap₂ ◌+◌ (same_sum k (omega arith)) (ap (◌+ 0) (same_blocks (made ws k) (made us k) word))
        ∙ sym (sum-append (blocks_at f blocks) (history f us k) _)

    same-accepted : (g h : History) → length g ≡ length h → sum_of (blocks_at f blocks) g ≡ sum_of (blocks_at f blocks) h
        → plan_of f blocks (accepted g) ≡ plan_of f blocks (accepted h)
    unfolding plan_of
    same-accepted g h size sum = same-fields refl (rw size refl) (rw size refl) sum

    same-plan : {o : Outcome} → PlanAnswers f ws o → items_in o ≤ m → plan_of f blocks o ≡ plan_of f blocks (heads_read f us)
    unfolding plan_of
    same-plan (at_start t) l = ap (plan_of f blocks) (sym (answered f us (at_start (rw (← long) t))))
    same-plan (at_empty t u) l = ap (plan_of f blocks) (sym (answered f us (at_empty (rw (← long) t) (rw same-empty u))))
    same-plan (at_end k r end) l =
        ap (plan_of f blocks) (sym (answered f us (at_end k (same-pass k l r) (rw (← long, ← same_place k (omega arith)) end))))
    same-plan (at_head n k r head s) l =
        ap (plan_of f blocks) (sym (answered f us (at_head n k (same-pass k l r) (same_head k l head) (rw (same-reasons k l) s))))
    same-plan (at_closing k r last t) l =
        ap (plan_of f blocks) (sym (answered f us (at_closing k (same-pass k l r) (same-closing k l last) (rw (same-closed k l) t))))
    same-plan (acceptance k r last t) l =
        let few : k ≤ m = rw (length-history f ws k) at l in
        same-accepted (history f ws k) (history f us k) (length-history f ws k ∙ sym (length-history f us k)) (same_sum k (omega arith))
        ∙ ap (plan_of f blocks) (sym (answered f us (acceptance k (same-pass k few r) (same-closing k few last) (rw (same-closed k few) t))))

-- a plan has the items of its outcome
items-planned : (f : Format) (blocks : ℕ → ℕ) (o : Outcome) → (plan_of f blocks o).items ≡ items_in o
unfolding plan_of
items-planned f blocks (unread n) = refl
items-planned f blocks (refused n k) = refl
items-planned f blocks (accepted h) = refl

pub heads-alone : (ws us : List ℕ) → length ws ≡ length us → traits_of ws ≡ traits_of us
    → ((n : ℕ) → n ≤ (plan ws).items → get_or ws (place_of (format_of ws) ws n) 0 ≡ get_or us (place_of (format_of ws) ws n) 0) → plan ws ≡ plan us
heads-alone ws us long traits same =
    let f = format_of ws in
    let blocks = blocks_for (hash_on (curve_number_of ws)) in
    same-plan f ws us long (plan ws).items same blocks ((answers f ws (heads_read f ws)).0 refl) (le_of_eq (sym (items-planned f blocks (heads_read f ws))))
    ∙ ap (λ (t : ℕ). plan_of (format_with hashes t) (blocks_for (hash_on (curve_number t))) (heads_read (format_with hashes t) us)) traits
