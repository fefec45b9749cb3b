-- The whole audit of a board that is not of a larger curve: its answer is that of before request (ix), without exception. One of a larger curve
-- was refused before its first item passed. Paper: request (ix), "a board without that word, or with one that gives 13, has today's widths".
-- Assumes nothing.
use Prim.Native.Nat.{ℕ, zero, suc, ◌≤◌, ◌<◌}
use native.Mathlib.Omega.{arith}
use native.Mathlib.Decide.{dec_lt}
use mathlib.Core.Path.{◌≡◌, refl, sym, ap, ◌∙◌}
use mathlib.Core.Logic.{◌≢◌, inl, inr, ⊎_elim, by_cases}
use mathlib.Core.Bool.{not, ◌&&◌}
use mathlib.Core.Option.{Option, none, some}
use mathlib.Core.List.{List, []}
use lib.ListN.{length, get_or, take, drop, length-take, get_or-eq_default}
use lib.Seq.{get_or-take, get_or-drop}
use lib.Dec.{T, eqb, leb, ltb, eqb→eq}
use borrow.Author.Tests.{eqb-true, eqb-false, lt-ltb, le-ltb}
use Rattle.model.specs.Lists.{if◌then◌otherwise◌, part}
use Rattle.model.specs.Words.{kind_of, code_of, count_of, is_closing}
use Rattle.model.specs.Refusal.{no_fault}
use Rattle.model.specs.Format.{Format, Hashes, secp256r1, format_on}
use Rattle.model.specs.Traits.{traits_head, traits_place, traits_known, traits_of, curve_of, set_words, format_with, format_of}
use Rattle.model.specs.Item.{Item, item_at, behind, code}
use Rattle.model.specs.Types.{Row, table, row_of, Listed, fits}
use Rattle.model.specs.History.{History, place_of, history}
use Rattle.model.specs.Only.{only_ok}
use Rattle.model.specs.Content.{genesis_traits, genesis_ok, content_ok}
use Rattle.model.specs.Roll.{Eligibility, is_bad_roll, on_roll}
use Rattle.model.specs.Audit.{Outcome, accepted, first_unmet, checks, verdict_of, head_fault, fault_in, fault, judged, word_at, reading, items, audit, closing_ok}
use Rattle.model.specs.Audit.{item_limit, is_too_large, is_short, is_empty, closing_ok}
use Rattle.model.specs.Sound.{Passed}
use Rattle.model.proofs.Tests.{facts, and-iff, by-test, passes, is_true, is_false, by-if}
use Rattle.model.proofs.Checks.{by-checks}
use Rattle.model.proofs.Steps.{judged-refused}
use Rattle.model.proofs.Table.{main_code, count_within, count-within-law}
use Rattle.model.proofs.Traits.{known-few}
use Rattle.model.proofs.Entries.{orderly}
use Rattle.model.proofs.Unchecked.{length-history}
use Rattle.narrow.specs.OneCurve as Was
use Rattle.narrow.specs.OneCurve.{LargerCurve, NonePassed}
use Rattle.narrow.proofs.Walk.{head-is, second, At, faultless}
use Rattle.narrow.proofs.Before.{implies-same}

-- ---- traits

-- but for 2 to 5 the same traits are known as before
known_same : (t : ℕ) → (2 ≤ t → 6 ≤ t) → traits_known t ≡ Was.traits_known t
unfolding Was.traits_known
known_same t other =
    by_cases (dec_lt t 2)
    (λ l. is_true (traits_known t) ((known-few t).1 (omega arith)) ∙ sym (lt-ltb t 2 l))
    (λ l. let far = other (omega arith) in
    let high : 2 ≤ t = omega arith in
    is_false (traits_known t) (λ k. let few = (known-few t).0 k in absurd (omega arith)) ∙ sym (le-ltb t 2 high))

-- a board that is not of a larger curve: such traits are not those of a genesis of 18 words that opens it
abbrev Today : List ℕ → Type 0
Today ws = get_or ws 0 0 ≡ traits_head → 2 ≤ get_or ws traits_place 0 → 6 ≤ get_or ws traits_place 0

today : (ws : List ℕ) → (LargerCurve ws → ⊥) → Today ws
today ws small head least =
    by_cases (dec_lt (get_or ws traits_place 0) 6)
    (λ l. absurd (small (record { head = head; least = least; most = omega arith })))
    (λ l. omega arith)

traits-same : (ws : List ℕ) → Today ws → traits_of ws ≡ Was.traits_of ws
unfolding traits_of Was.traits_of if◌then◌otherwise◌
traits-same ws other =
    by-test (eqb (get_or ws 0 0) traits_head)
    (λ q. rw (q, known_same (get_or ws traits_place 0) (other (eqb-true (get_or ws 0 0) traits_head q))))
    (λ q. rw q)

was-few : (ws : List ℕ) → Was.traits_of ws < 2
unfolding Was.traits_of Was.traits_known
was-few ws =
    by-if (λ (t : ℕ). t < 2) (eqb (get_or ws 0 0) traits_head && ltb (get_or ws traits_place 0) 2) (get_or ws traits_place 0) 0
    (λ b. (simp facts at b).1)
    (λ b. omega arith)

with-few : (s : Hashes) (t : ℕ) → t < 2 → format_with s t ≡ format_on s secp256r1 (set_words t)
unfolding curve_of if◌then◌otherwise◌
with-few s zero l = refl
with-few s (suc zero) l = refl
with-few s (suc (suc t)) l = absurd (omega arith)

-- so its format is the same
format-same : (s : Hashes) (ws : List ℕ) → Today ws → format_of s ws ≡ Was.format_of s ws
format-same s ws other = ap (format_with s) (traits-same ws other) ∙ with-few s (Was.traits_of ws) (was-few ws)

-- the traits of the item that opens a board, where it has 18 content words
read-traits : (f : Format) (ws : List ℕ) → count_of (get_or ws 0 0) ≡ 18 → genesis_traits (item_at f ws 0) ≡ get_or ws traits_place 0
unfolding item_at part
read-traits f ws all = rw all (get_or-take 18 (drop 1 ws) 17 0 (omega arith) ∙ get_or-drop 1 ws 17 0)

-- ---- the same answer

module _ (f : Format) (on : Eligibility) (ws vs : List ℕ) where
  -- the traits of the first item, where it is a genesis with a count of the table
  module _ (l : Listed f (get_or ws 0 0)) (c : T (fits l.row.counts (count_of (get_or ws 0 0)))) (is : code_of (get_or ws 0 0) ≡ 1) where
    first-traits : Today ws → 2 ≤ genesis_traits (item_at f ws 0) → 6 ≤ genesis_traits (item_at f ws 0)
    unfolding item_at part count_within table
    first-traits other =
        let w = get_or ws 0 0 in
        let n = count_of w in
        let range = count-within-law 1 17 18 n tt l is c in
        by-test (eqb n 18)
        (λ q. let all = eqb-true n 18 q in
        let head = head-is w (eqb-true (kind_of w) 1 (main_code l ∙ rw is)) is all in
        rw (read-traits f ws all) (other head))
        (λ q. let few : n ≤ 17 = omega (arith, eqb-false n 18 q) in
        let past : length (take n (drop 1 ws)) ≤ 17 = simp length-take (omega arith) in
        rw (get_or-eq_default (take n (drop 1 ws)) 0 past) (λ two. absurd (omega arith)))

  module _ (other : Today ws) where
    -- check 13 asks the same of the item behind the first n, where it is the first or no second genesis
    genesis-same : (n : ℕ) → let h = history f ws n in let p = place_of f ws n in At f on h p → (l : Listed f (get_or ws p 0))
        → T (fits l.row.counts (count_of (get_or ws p 0))) → T (only_ok h (item_at f ws p))
        → genesis_ok (item_at f ws p) ≡ Was.genesis_ok (item_at f ws p)
    unfolding genesis_ok Was.genesis_ok history place_of item_at
    genesis-same zero a l c only =
        let i = item_at f ws 0 in
        implies-same (eqb (code i) 1) _ _ (λ q. known_same (genesis_traits i) (first-traits l c (eqb→eq (code i) 1 q) other))
    genesis-same (suc n) a l c only =
        let h = history f ws (suc n) in
        let i = item_at f ws (place_of f ws (suc n)) in
        let some : 1 ≤ length h = omega (arith, length-history f ws (suc n)) in
        implies-same (eqb (code i) 1) _ _ (λ q. absurd (second h i (orderly a.passed).opens some (eqb→eq (code i) 1 q) only))

    -- so it has the same fault
    fault-same : (r : Option Row) (n : ℕ) → let h = history f ws n in let p = place_of f ws n in At f on h p → row_of f (get_or ws p 0) ≡ r
        → fault_in f on ws vs r h p ≡ Was.fault_in f on ws vs r h p
    unfolding fault_in head_fault Was.fault_in checks Was.checks first_unmet content_ok Was.content_ok if◌then◌otherwise◌
    fault-same none n a e = refl
    fault-same (some r) n a e =
        let h = history f ws n in
        let w = get_or ws (place_of f ws n) 0 in
        by-test (fits r.counts (count_of w))
        (λ q. by-test (only_ok h (item_at f ws (place_of f ws n)))
        (λ t. rw (genesis-same n a (record { row = r; found = e }) (passes q) (passes t)))
        (λ t. rw t))
        (λ q. rw q)

    judged-same : (k : ℕ) (h : History) {is was : Outcome} → (k ≡ no_fault → is ≡ was) → judged k h is ≡ judged k h was
    unfolding judged
    judged-same zero h same = same refl
    judged-same (suc k) h same = refl

    items-same : (k n : ℕ) → let h = history f ws n in let p = place_of f ws n in At f on h p
        → items f on ws vs k h p ≡ Was.items f on ws vs k h p
    unfolding reading Was.items history place_of
    items-same zero n a = refl
    items-same (suc k) n a =
        let h = history f ws n in
        let p = place_of f ws n in
        let rest = Was.items f on ws vs k (history f ws (suc n)) (place_of f ws (suc n)) in
        ap (word_at ws (closing_ok ws vs) h p)
        (judged-same (fault f on ws vs h p) h (λ e. items-same k (suc n) (faultless f on ws vs _ h p a refl e))
        ∙ ap (λ (m : ℕ). judged m h rest) (fault-same _ n a refl))

    all_same : items f on ws vs item_limit [] 0 ≡ Was.items f on ws vs item_limit [] 0
    unfolding history place_of
    all_same = items-same item_limit 0 (record { words = []; verdicts = []; passed = Passed.none; place = refl })

-- a board that is not of a larger curve gets the answer that it got before
pub audit-today : (s : Hashes) (ws vs roll : List ℕ) (index ballots : ℕ) → (LargerCurve ws → ⊥)
    → audit (format_of s ws) ws vs roll index ballots ≡ Was.audit (Was.format_of s ws) ws vs roll index ballots
unfolding audit Was.audit if◌then◌otherwise◌
audit-today s ws vs roll index ballots small =
    let other = today ws small in
    rw (format-same s ws other, all_same (Was.format_of s ws) (on_roll roll) ws vs other)

-- ---- a larger curve

-- the first part of check 13
genesis-met : (f : Format) (h : History) (i : Item) → T (Was.content_ok f h i) → T (Was.genesis_ok i)
unfolding Was.content_ok
genesis-met f h i t = let all = simp and-iff at t in search

module _ (f : Format) (on : Eligibility) (ws vs : List ℕ) (larger : LargerCurve ws) where
  -- its first item did not meet check 13,
  unmet : T (Was.content_ok f [] (item_at f ws 0)) → ⊥
  unfolding item_at count_of code_of Was.genesis_ok Was.traits_known
  unmet t =
      let traits = read-traits f ws (ap count_of larger.head) in
      let few = simp facts at (genesis-met f [] (item_at f ws 0) t) (ap code_of larger.head) in
      absurd (omega (arith, larger.least))

  -- so it was refused
  was-refused : (r : Option Row) → Was.fault_in f on ws vs r [] 0 ≢ no_fault
  unfolding Was.fault_in Was.checks
  was-refused none = λ e. absurd (omega arith)
  was-refused (some r) =
      let Goal : ℕ → Type 0 = λ n. n ≢ no_fault in
      let some : (n : ℕ) → Goal (suc n) = λ n e. absurd (omega arith) in
      by-if Goal (not (fits r.counts (count_of (get_or ws 0 0)))) _ _ (λ t. some 5)
      λ t. by-if Goal (ltb (length ws) (behind f ws 0)) _ _ (λ u. some 3)
      λ u. by-checks Goal (Was.checks f on [] (verdict_of vs []) r (item_at f ws 0))
      (λ met. absurd (unmet met.1.1.1.1.1.1.0))
      (some 6, (some 7, (some 8, (some 9, (some 10, (some 11, (some 12, (some 20, (some 13, (some 14, (some 15, tt)))))))))))

  was-none : (k : ℕ) → NonePassed (Was.items f on ws vs (suc k) [] 0)
  unfolding Was.items word_at kind_of
  was-none k =
      by-if NonePassed (leb (length ws) 0) _ _ (λ t. (4, inr refl))
      λ t. by-if NonePassed (is_closing (get_or ws 0 0)) _ _ (λ u. absurd (rw larger.head at u))
      λ u. let fault = Was.fault f on ws vs [] 0 in (fault, inr (judged-refused fault [] _ (was-refused _)))

-- a board of a larger curve was refused before its first item passed
pub larger-before : (f : Format) (ws vs roll : List ℕ) (index ballots : ℕ) → LargerCurve ws → NonePassed (Was.audit f ws vs roll index ballots)
unfolding Was.audit
larger-before f ws vs roll index ballots larger =
    by-if NonePassed (is_too_large ws) _ _ (λ t. (1, inl refl))
    λ t. by-if NonePassed (is_short index ballots) _ _ (λ u. (2, inl refl))
    λ u. by-if NonePassed (is_bad_roll roll) _ _ (λ b. (20, inr refl))
    λ b. by-if NonePassed (is_empty ws) _ _ (λ e. (3, inr refl)) (λ e. was-none f (on_roll roll) ws vs larger 2047)

-- so what was accepted still is, with the same history
pub accepted-still : (s : Hashes) (ws vs roll : List ℕ) (index ballots : ℕ) (h : History)
    → Was.audit (Was.format_of s ws) ws vs roll index ballots ≡ accepted h → audit (format_of s ws) ws vs roll index ballots ≡ accepted h
accepted-still s ws vs roll index ballots h e =
    let small : LargerCurve ws → ⊥ = λ larger. let (n, was) = larger-before (Was.format_of s ws) ws vs roll index ballots larger in
    let clash : ◌≡◌ {A = ℕ} 0 1 = ⊎_elim (λ q. cc) (λ q. cc) was in
    absurd (omega arith) in
    audit-today s ws vs roll index ballots small ∙ e
