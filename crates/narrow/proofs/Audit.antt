-- The whole audit of a board that does not begin with the head of a genesis of 18 words: its answer is that of before request (v), but for a
-- later genesis of 18 words, which was refused and is. Paper: request (v), "A genesis of 17 words means today's widths". Assumes nothing.
use Prim.Native.Nat.{ℕ, zero, suc, ◌≤◌}
use native.Mathlib.Omega.{arith}
use mathlib.Core.Path.{◌≡◌, refl, sym, ap, ◌∙◌}
use mathlib.Core.Logic.{◌≢◌, ◌↔◌, ◌⊎◌, inl, inr, ⊎_elim}
use mathlib.Core.Bool.{Bool, true, false, not, ◌&&◌}
use mathlib.Core.Option.{Option, none, some}
use mathlib.Core.List.{List, [], ◌∷◌, map}
use lib.ListN.{length, get_or}
use lib.Dec.{T, eqb, leb, ltb}
use borrow.Author.Tests.{eqb-true, eqb-false, ltb-false}
use Rattle.model.specs.Lists.{if◌then◌otherwise◌, any, has}
use Rattle.model.specs.Words.{kind_of, code_of, count_of, is_closing}
use Rattle.model.specs.Refusal.{no_fault, too_large, wrong_count}
use Rattle.model.specs.Format.{Format, Hashes, secp256r1, format_on}
use Rattle.model.specs.Traits.{traits_head, format_of}
use Rattle.model.specs.Item.{Item, item_at, behind, code}
use Rattle.model.specs.Types.{Counts, from◌to◌, Row, row_in, row_of, Listed, fits}
use Rattle.model.specs.History.{History, place_of, history}
use Rattle.model.specs.Links.{address_ok, previous_ok, parent_ok, time_ok}
use Rattle.model.specs.Phase.{phase_ok}
use Rattle.model.specs.Only.{only_ok}
use Rattle.model.specs.Content.{genesis_ok, content_ok}
use Rattle.model.specs.Roll.{Eligibility, is_bad_roll, on_roll}
use Rattle.model.specs.Audit.{Outcome, refused, accepted, first_unmet, checks, head_fault, fault_in, fault, judged, word_at, reading, items, audit, closing_ok}
use Rattle.model.specs.Audit.{item_limit, is_too_large, is_short, is_empty, closing_ok}
use Rattle.model.specs.Sound.{Shaped, Passed}
use Rattle.model.proofs.Tests.{facts, by-test, passes, by-if}
use Rattle.model.proofs.Parsing.{shaped-at}
use Rattle.model.proofs.Table.{main_code}
use Rattle.model.proofs.Entries.{orderly}
use Rattle.model.proofs.Unchecked.{length-history}
use Rattle.model.proofs.Steps.{judged-refused}
use Rattle.model.proofs.Traits.{other-board}
use Rattle.narrow.specs.Before as Before
use Rattle.narrow.specs.Before.{up_to_second, LaterGenesis}
use Rattle.narrow.proofs.Walk.{head-is, second, At, faultless}
use Rattle.narrow.proofs.Before.{counts-now, row_now, row_before, first-before, genesis-before, others-before}
use Rattle.narrow.proofs.Before.{table_before, phase-before, content-before}

-- ---- rows

-- a row of before, with counts of now
abbrev with-counts : Before.Row → Counts → Row
with-counts r c = record { code = r.code; kind = r.kind; writer = r.writer; parent = r.parent; counts = c }

abbrev option-now : Option Before.Row → Option Row
option-now none = none
option-now (some r) = some (row_now r)

row-in-now : (k c : ℕ) (rs : List Before.Row) → row_in k c (map row_now rs) ≡ option-now (Before.row_in k c rs)
unfolding row_in Before.row_in if◌then◌otherwise◌
row-in-now k c [] = refl
row-in-now k c (r ∷ rs) = by-test (eqb k r.kind && eqb c r.code) (λ q. rw q) (λ q. rw q (row-in-now k c rs))

-- the head of a genesis, and its row
abbrev is_genesis : ℕ → Bool
is_genesis w = eqb (kind_of w) 1 && eqb (code_of w) 1

abbrev first_now : Row
first_now = with-counts Before.first_row (from◌to◌ 17 18)

-- ---- a later genesis

abbrev UpToSecond : ℕ → Type 0
UpToSecond k = T (has k up_to_second)

some_number : (k : ℕ) → UpToSecond k → k ≢ no_fault
unfolding any
some_number k t q = rw q at t

module _ (s : Hashes) where
  abbrev f : Format
  f = format_on s secp256r1 1

  module _ (w : ℕ) where
    first-row : is_genesis w ≡ true → row_of f w ≡ some first_now
    unfolding row_of row_in if◌then◌otherwise◌
    first-row q = ap (row_in (kind_of w) (code_of w)) (table_before s) ∙ rw q

    was-first : is_genesis w ≡ true → Before.row_of f w ≡ some Before.first_row
    unfolding Before.row_of Before.row_in if◌then◌otherwise◌
    was-first q = rw q

    other_row : is_genesis w ≡ false → row_of f w ≡ option-now (Before.row_of f w)
    unfolding row_of row_in Before.row_of Before.row_in if◌then◌otherwise◌
    other_row q = ap (row_in (kind_of w) (code_of w)) (table_before s) ∙ rw q (row-in-now (kind_of w) (code_of w) (Before.other_rows f))

    -- type 1 is listed under kind 1 only
    listed-genesis : Listed f w → code_of w ≡ 1 → is_genesis w ≡ true
    listed-genesis l c = rw (main_code l, c)

  module _ (on : Eligibility) (ws vs : List ℕ) where
    -- ---- one item

    module _ (h : History) (p : ℕ) (a : At f on h p) where
      abbrev w : ℕ
      w = get_or ws p 0

      abbrev i : Item
      i = item_at f ws p

      -- where its row of now and that of before allow its count alike, and check 13 asks nothing new of it
      same-fault : (r : Before.Row) (c : Counts) → row_of f w ≡ some (with-counts r c) → fits c (count_of w) ≡ Before.fits r.counts (count_of w)
          → (Shaped f i → T (fits c (count_of w)) → genesis_ok i ≡ true)
          → fault_in f on ws vs (some (with-counts r c)) h p ≡ Before.fault_in f on ws vs (some r) h p
      unfolding fault_in head_fault Before.fault_in checks Before.checks if◌then◌otherwise◌ item_at
      same-fault r c listed same old =
          by-test (fits c (count_of w))
          (λ q. rw (← same, q)
          (by-test (ltb (length ws) (behind f ws p))
          (λ u. rw u)
          (λ u. let shaped = shaped-at f ws p (ltb-false (length ws) (behind f ws p) u) in
          let content : content_ok f h i ≡ Before.content_ok f h i =
          content-before s a.passed i shaped (record { row = with-counts r c; found = listed }) (passes q)
          ∙ rw (old shaped (passes q)) in
          rw (u, phase-before s a.passed i, content))))
          (λ q. rw (← same, q))

      -- another item than a genesis
      other-fault : (r : Option Before.Row) → row_of f w ≡ option-now r → is_genesis w ≡ false
          → fault_in f on ws vs (option-now r) h p ≡ Before.fault_in f on ws vs r h p
      unfolding fault_in head_fault Before.fault_in item_at
      other-fault none e q = refl
      other-fault (some r) e q =
          let l : Listed f w = record { row = row_now r; found = e } in
          let other : code i ≢ 1 = λ c. absurd (passes (sym q ∙ listed-genesis w l c)) in
          same-fault r (counts-now r.counts) e (row_before r.counts (count_of w)) (λ shaped t. others-before i other)

      -- a genesis, but of 18 words
      first-fault : is_genesis w ≡ true → count_of w ≢ 18
          → fault_in f on ws vs (some first_now) h p ≡ Before.fault_in f on ws vs (some Before.first_row) h p
      unfolding fits item_at
      first-fault q other =
          same-fault Before.first_row (from◌to◌ 17 18) (first-row w q) (first-before (count_of w) other)
          (λ shaped t. let (least, most) = simp facts at t in
          let count : count_of w ≡ 17 = omega arith in
          genesis-before i (shaped.content ∙ count))

      -- a genesis of 18 words: its count was not in the table,
      was-fault : count_of w ≡ 18 → Before.fault_in f on ws vs (some Before.first_row) h p ≡ wrong_count
      unfolding Before.fault_in Before.fits if◌then◌otherwise◌
      was-fault e = rw e

      -- and behind another item it is now refused by a check up to 12
      later-fault : 1 ≤ length h → code_of w ≡ 1 → count_of w ≡ 18 → UpToSecond (fault_in f on ws vs (some first_now) h p)
      unfolding fault_in head_fault fits checks first_unmet any item_at
      later-fault one c e =
          by-if UpToSecond (not (fits (from◌to◌ 17 18) (count_of w))) _ _ (λ t. absurd (rw e at t))
          λ t. by-if UpToSecond (ltb (length ws) (behind f ws p)) _ _ (λ t. tt)
          λ t. by-if UpToSecond (address_ok f i) _ _ (λ t. by-if UpToSecond (previous_ok f h i) _ _
          (λ t. by-if UpToSecond (parent_ok f h first_now.parent i) _ _ (λ t. by-if UpToSecond (time_ok h i) _ _
          (λ t. by-if UpToSecond (phase_ok h i) _ _ (λ t. by-if UpToSecond (only_ok h i) _ _
          (λ t. absurd (second h i (orderly a.passed).opens one c t))
          (λ t. tt)) (λ t. tt)) (λ t. tt)) (λ t. tt)) (λ t. tt)) (λ t. tt)

    -- ---- item by item

    -- the same answer, or another for a later genesis
    abbrev Same : Outcome → Outcome → Type 0
    Same is was = (is ≡ was) ⊎ LaterGenesis s ws was is

    -- the same fault is the same answer, or leads on
    judged-same : (k : ℕ) (h : History) (is was : Outcome) → (k ≡ no_fault → Same is was) → Same (judged k h is) (judged k h was)
    unfolding judged
    judged-same zero h is was g = g refl
    judged-same (suc k) h is was g = inl refl

    word_same : (h : History) (p : ℕ) (is was : Outcome) → Same is was → Same (word_at ws (closing_ok ws vs) h p is) (word_at ws (closing_ok ws vs) h p was)
    unfolding word_at if◌then◌otherwise◌
    word_same h p is was same =
        by-test (leb (length ws) p) (λ q. rw q (inl refl))
        (λ q. rw q (by-test (is_closing (get_or ws p 0)) (λ t. rw t (inl refl)) (λ t. rw t same)))

    module _ (other : get_or ws 0 0 ≢ traits_head) where
      not_first : (n : ℕ) → get_or ws (place_of f ws n) 0 ≡ traits_head → 1 ≤ n
      unfolding place_of
      not_first zero e = absurd (other e)
      not_first (suc n) e = omega arith

      -- the item behind the first n
      item-same : (n : ℕ) (is was : Outcome) → At f on (history f ws n) (place_of f ws n)
          → (At f on (history f ws (suc n)) (place_of f ws (suc n)) → Same is was)
          → let h = history f ws n in let p = place_of f ws n in
          Same (judged (fault f on ws vs h p) h is) (judged (Before.fault f on ws vs h p) h was)
      unfolding history place_of
      item-same n is was a rest =
          let h = history f ws n in
          let p = place_of f ws n in
          let w = get_or ws p 0 in
          let size : length h ≡ n = length-history f ws n in
          by-test (is_genesis w)
          (λ q. rw (first-row w q, was-first w q)
          (by-test (eqb (count_of w) 18)
          (λ t. let (kind, type) = simp facts at (passes q) in
          let count = eqb-true (count_of w) 18 t in
          let head = head-is w kind type count in
          let later = not_first n head in
          let number = later-fault h p a (omega arith) type count in
          inr (record {
            passed = n;
            later = later;
            head = head;
            before = judged-refused _ h was (λ e. absurd (omega (arith, was-fault h p a count))) ∙ rw (was-fault h p a count, size);
            number = fault_in f on ws vs (some first_now) h p;
            now = judged-refused _ h is (some_number _ number) ∙ rw size;
            number_is = number;
          }))
          (λ t. rw (← first-fault h p a q (eqb-false (count_of w) 18 t))
          (judged-same _ h is was (λ e. rest (faultless f on ws vs _ h p a (first-row w q) e))))))
          (λ q. rw (other_row w q, ← other-fault h p a (Before.row_of f w) (other_row w q) q)
          (judged-same _ h is was (λ e. rest (faultless f on ws vs _ h p a (other_row w q) e))))

      items-same : (k n : ℕ) → At f on (history f ws n) (place_of f ws n)
          → let h = history f ws n in let p = place_of f ws n in
          Same (items f on ws vs k h p) (Before.items f on ws vs k h p)
      unfolding reading Before.items history place_of
      items-same zero n a = word_same (history f ws n) _ (refused too_large (length (history f ws n))) _ (inl refl)
      items-same (suc k) n a = word_same (history f ws n) _ _ _ (item-same n _ _ a (λ b. items-same k (suc n) b))

      all_same : Same (items f on ws vs item_limit [] 0) (Before.items f on ws vs item_limit [] 0)
      unfolding history place_of
      all_same = items-same item_limit 0 (record { words = []; verdicts = []; passed = Passed.none; place = refl })

-- ---- the audit

-- a board that does not begin with the head of a genesis of 18 words gets the answer that it got before, but for a later one of 18 words
pub audit-before : (s : Hashes) (ws vs roll : List ℕ) (index ballots : ℕ) → get_or ws 0 0 ≢ traits_head
    → let is = audit (format_of s ws) ws vs roll index ballots in
    let was = Before.audit (format_on s secp256r1 1) ws vs roll index ballots in
    (is ≡ was) ⊎ LaterGenesis s ws was is
unfolding audit Before.audit if◌then◌otherwise◌
audit-before s ws vs roll index ballots other =
    rw (other-board s ws other)
    (by-test (is_too_large ws) (λ q. rw q (inl refl))
    (λ q. rw q (by-test (is_short index ballots) (λ t. rw t (inl refl))
    (λ t. rw t (by-test (is_bad_roll roll) (λ b. rw b (inl refl))
    (λ b. rw b (by-test (is_empty ws) (λ e. rw e (inl refl)) (λ e. rw e (all_same s (on_roll roll) ws vs other)))))))))

-- as one does that begins with the head of a genesis of 17 words
pub today-before : (s : Hashes) (ws vs roll : List ℕ) (index ballots : ℕ) → get_or ws 0 0 ≡ 0x10010011
    → let is = audit (format_of s ws) ws vs roll index ballots in
    let was = Before.audit (format_on s secp256r1 1) ws vs roll index ballots in
    (is ≡ was) ⊎ LaterGenesis s ws was is
today-before s ws vs roll index ballots e = audit-before s ws vs roll index ballots (λ t. absurd (omega arith))

-- so the same of these boards are accepted, with the same history, and so with the same report and tables
pub accepted-before : (s : Hashes) (ws vs roll : List ℕ) (index ballots : ℕ) → get_or ws 0 0 ≢ traits_head → (h : History)
    → (audit (format_of s ws) ws vs roll index ballots ≡ accepted h)
    ↔ (Before.audit (format_on s secp256r1 1) ws vs roll index ballots ≡ accepted h)
accepted-before s ws vs roll index ballots other h =
    ⊎_elim (λ same. rw same (λ e. e, λ e. e))
    (λ d. (λ e. cc d.now, λ e. cc d.before))
    (audit-before s ws vs roll index ballots other)
