-- For sets of one word the rules are those of before request (v): "A genesis of 17 words means today's widths". What follows for the whole
-- audit is on the page Audit. Assumes nothing.
use Prim.Native.Nat.compare
use Prim.Native.Nat.{ℕ, zero, suc, ◌+◌, ◌-◌, ◌*◌, ◌%◌, ◌≤◌, ◌<◌}
use native.Mathlib.Nat.{add-zero, not-suc-le-zero}
use native.Mathlib.Omega.{arith}
use mathlib.Core.Path.{◌≡◌, refl, sym, ap, ◌∙◌}
use mathlib.Core.Logic.{◌≢◌}
use mathlib.Core.Bool.{Bool, true, false, ◌&&◌}
use mathlib.Core.List.{List, [], ◌∷◌, map}
use lib.ListN.{length, drop, length-drop, get_or-eq_default}
use lib.Seq.{take_all}
use lib.Dec.{T, eqb, leb, ltb, eqb→eq}
use borrow.Author.Tests.{ne_eqb, le-leb, lt-leb, leb-true, leb-false}
use Rattle.model.specs.Lists.{◌⇒◌, part, any}
use Rattle.model.specs.Words.{count_of, bit, in_words, member, size, all_in}
use Rattle.model.specs.Codes.{genesis_type}
use Rattle.model.specs.Format.{Format, Hashes, secp256r1, format_on}
use Rattle.model.specs.Traits.{traits_known}
use Rattle.model.specs.Item.{Item, code, time, word}
use Rattle.model.specs.Types.{administrator, zeros, Counts, from◌to◌, set_and_each, Row, table, Listed, fits}
use Rattle.model.specs.History.{History, entry, item_no, first, typed, parent_number, session_contests}
use Rattle.model.specs.Phase.{same_round, rounds, round_contests, round_start, round_end, is_open, open_ok, phase_ok}
use Rattle.model.specs.Content.{defines, contests_ok, enables, may_vote, cryptograms_ok}
use Rattle.model.specs.Content.{genesis_ok, contest_ok, round_ok, session_ok, ballot_ok, trustees_ok, content_ok}
use Rattle.model.specs.Roll.{Eligibility}
use Rattle.model.specs.Sound.{Shaped, Passed}
use Rattle.model.proofs.Tests.{by-test, every_below-ext}
use Rattle.model.proofs.Lists.{Every, every_map, every-keep, every-latest}
use Rattle.model.proofs.Parts.{part-one}
use Rattle.model.proofs.Sets.{bit-zero, set-bit}
use Rattle.model.proofs.Table.{count_type, count-type-law, count_within, count-within-law}
use Rattle.model.proofs.Entries.{Orderly, fine-at, each-fine, typed-words, session-fine, session-up, parent-bound, orderly}
use Rattle.narrow.specs.Before as Before

-- ---- tests

-- what is asked only under a premise
pub implies-same : (a b c : Bool) → (T a → b ≡ c) → (a ⇒ b) ≡ (a ⇒ c)
unfolding ◌⇒◌
implies-same true b c g = g tt
implies-same false b c g = refl

any_same : {A : Type 0} (p q : A → Bool) (xs : List A) → Every (λ x. p x ≡ q x) xs → any p xs ≡ any q xs
unfolding any
any_same p q [] all = refl
any_same p q (x ∷ xs) all = rw (all.0, any_same p q xs all.1)

-- ---- the table

-- a row of before as one of now
abbrev pub counts-now : Before.Counts → Counts
counts-now (Before.from◌to◌ lo hi) = from◌to◌ lo hi
counts-now (Before.one_and_each s) = set_and_each 1 s

abbrev pub row_now : Before.Row → Row
row_now r = record { code = r.code; kind = r.kind; writer = r.writer; parent = r.parent; counts = counts-now r.counts }

-- 1 + k times a size: a set of one word, and k times a size
pub counts-before : (s n : ℕ) → fits (set_and_each 1 s) n ≡ Before.fits (Before.one_and_each s) n
unfolding fits Before.fits
counts-before s n = refl

-- so a row of before allows the same counts as one of now
pub row_before : (c : Before.Counts) (n : ℕ) → fits (counts-now c) n ≡ Before.fits c n
unfolding fits Before.fits
row_before (Before.from◌to◌ lo hi) n = refl
row_before (Before.one_and_each s) n = counts-before s n

-- and genesis the same counts, but for 18
pub first-before : (n : ℕ) → n ≢ 18 → fits (from◌to◌ 17 18) n ≡ Before.fits (Before.first_row).counts n
unfolding fits Before.fits
first-before n other =
    by-test (leb n 17)
    (λ q. rw (q, le-leb n 18 (omega (arith, leb-true n 17 q))))
    (λ q. rw (q, lt-leb n 18 (omega (arith, leb-false n 17 q))))

-- ---- a set of one word

one-member : (w j : ℕ) → j < 32 → member (w ∷ []) j ≡ bit w j
one-member w j l = let e : 0 * 32 + j ≡ j = omega arith in ap (member (w ∷ [])) (sym e) ∙ set-bit (w ∷ []) 0 j l

one_size : (w : ℕ) → size (w ∷ []) ≡ Before.size w
unfolding size
one_size w = rw add-zero

one-all : (w : ℕ) (p q : ℕ → Bool) → ((j : ℕ) → j < 32 → p j ≡ q j) → all_in (w ∷ []) p ≡ Before.all_in w q
unfolding all_in Before.all_in
one-all w p q same = every_below-ext 32 _ _ (λ j l. rw (one-member w j l, same j l))

one-contests : (h : History) (w : ℕ) → contests_ok h (w ∷ []) ≡ Before.contests_ok h w
unfolding contests_ok Before.contests_ok
one-contests h w = rw (one_size w, one-all w (λ j. any (defines j) h) (λ j. any (defines j) h) (λ j l. refl))

-- ---- a round of six words

module _ (r : Item) (n : length r.content ≡ 6) where
  round-set : round_contests r ≡ Before.round_contests r ∷ []
  round-set = let one : length r.content - 5 ≡ 1 = omega arith in rw one (part-one 1 r.content 0 (omega arith))

  round-start : round_start r ≡ Before.round_start r
  round-start = let two : length r.content - 4 ≡ 2 = omega arith in rw two

  round-end : round_end r ≡ Before.round_end r
  round-end = let four : length r.content - 2 ≡ 4 = omega arith in rw four

  round-open : (t : ℕ) → is_open t r ≡ Before.is_open t r
  unfolding is_open Before.is_open
  round-open t = rw (round-start, round-end)

  round-enables : (t j : ℕ) → j < 32 → enables t j r ≡ Before.enables t j r
  round-enables t j l = rw (round-open t, round-set, one-member (Before.round_contests r) j l)

-- ---- a session of nineteen words, or none

session-set : (s : Item) → length s.content ≡ 19 → session_contests s ≡ Before.session_contests s ∷ []
unfolding part
session-set s n = sym (take_all 1 (drop 18 s.content) (simp length-drop (omega arith))) ∙ part-one 18 s.content 0 (omega arith)

-- item k, where it has nineteen words, or none for 0
session-bit : (h : History) (k : ℕ) → (1 ≤ k → length (item_no h k).content ≡ 19) → (j : ℕ) → j < 32
    → member (session_contests (item_no h k)) j ≡ bit (Before.session_contests (item_no h k)) j
unfolding entry in_words
session-bit h zero n j l = bit-zero (j % 32) ∙ sym (bit-zero j)
session-bit h (suc k) n j l =
    let s = item_no h (suc k) in
    ap (λ (c : List ℕ). member c j) (session-set s (n (omega arith))) ∙ one-member (Before.session_contests s) j l

-- ---- cryptograms behind one word

one-cryptograms : (s k : ℕ) (c : List ℕ) → cryptograms_ok 1 s k c ≡ Before.cryptograms_ok s k c
unfolding cryptograms_ok Before.cryptograms_ok
one-cryptograms s zero c = refl
one-cryptograms s (suc k) c = let e : 1 + suc k * s - 1 ≡ suc k * s = omega arith in rw (e, one-cryptograms s k c)

-- ---- genesis, and other items

-- check 13 asks nothing new of a genesis of 17 words,
pub genesis-before : (i : Item) → length i.content ≡ 17 → genesis_ok i ≡ true
unfolding genesis_ok traits_known ◌⇒◌
genesis-before i n =
    let past : length i.content ≤ 17 = omega arith in
    rw (get_or-eq_default i.content 0 past) (by-test (eqb (code i) 1) (λ q. rw q) (λ q. rw q))

-- nor of an item of another type
pub others-before : (i : Item) → code i ≢ genesis_type → genesis_ok i ≡ true
unfolding genesis_ok ◌⇒◌
others-before i n = rw (ne_eqb (code i) 1 n)

-- ---- the rules

module _ (s : Hashes) where
  abbrev f : Format
  f = format_on s secp256r1 1

  -- checks 5 and 6: the rows are those of before, but that genesis has 17 words or 18
  pub table_before : table f
      ≡ record { code = 1; kind = 1; writer = administrator; parent = zeros; counts = from◌to◌ 17 18 } ∷ map row_now (Before.other_rows f)
  unfolding table Before.other_rows
  table_before = refl

  module _ {h : History} (o : Orderly f h) where
    rounds-six : Every (λ r. length r.content ≡ 6) (rounds h)
    unfolding rounds count_type table
    rounds-six =
        let six : Item → Type 0 = λ r. length r.content ≡ 6 in
        every-latest same_round six _ (every-keep (typed 6) (λ e. e.item) six h (each-fine o _ (λ e a t. typed-words a 6 6 tt t)))

    any-round : (p q : Item → Bool) → ((r : Item) → length r.content ≡ 6 → p r ≡ q r) → any p (rounds h) ≡ any q (rounds h)
    any-round p q same = any_same p q (rounds h) (every_map _ _ same (rounds h) rounds-six)

    open-before : (i : Item) → open_ok h i ≡ Before.open_ok h i
    unfolding open_ok Before.open_ok
    open-before i = rw (any-round (is_open (time i)) (Before.is_open (time i)) (λ r n. round-open r n (time i)))

    -- the session of item k, where it has one
    session-words : (k : ℕ) → k ≤ length h → 1 ≤ (entry h k).session → length (item_no h (entry h k).session).content ≡ 19
    unfolding entry count_type table
    session-words zero l s = absurd (not-suc-le-zero s)
    session-words (suc k) l s =
        let a = fine-at o (suc k) (omega arith) l in
        typed-words (session-fine a o s) 16 19 tt (a.session-typed s)

    vote-before : (i : Item) → eqb (code i) 1 ≡ false → eqb (code i) 16 ≡ false → (j : ℕ) → j < 32
        → may_vote h i j ≡ Before.may_vote h i j
    unfolding may_vote Before.may_vote
    vote-before i q s j l =
        let k = parent_number h i in
        rw (
          session-up h i q s,
          session-bit h (entry h k).session (session-words k (parent-bound h i q)) j l,
          any-round (enables (time i) j) (Before.enables (time i) j) (λ r n. round-enables r n (time i) j l),
        )

  -- check 11
  pub phase-before : {on : Eligibility} {ws vs : List ℕ} {h : History} → Passed f on ws vs h → (i : Item)
      → phase_ok h i ≡ Before.phase_ok h i
  unfolding phase_ok Before.phase_ok
  phase-before p i = rw (open-before (orderly p) i)

  -- check 13
  module _ {h : History} (o : Orderly f h) (i : Item) (shaped : Shaped f i) (l : Listed f i.head)
      (c : T (fits l.row.counts (count_of i.head))) where
    words_are : (t n : ℕ) → T (count_type f t n) → T (eqb (code i) t) → length i.content ≡ n
    words_are t n b q = shaped.content ∙ count-type-law t n (count_of i.head) b l (eqb→eq (code i) t q) c

    contest-before : contest_ok f i ≡ Before.contest_ok i
    unfolding contest_ok Before.contest_ok
    contest-before = rw compare.suc-suc

    round-before : round_ok h i ≡ Before.round_ok h i
    unfolding round_ok Before.round_ok count_type table
    round-before =
        implies-same (eqb (code i) 6) _ _ (λ q.
        let n = words_are 6 6 tt q in
        rw (round-start i n, round-end i n, round-set i n, one-contests h (Before.round_contests i)))

    session-before : session_ok h i ≡ Before.session_ok h i
    unfolding session_ok Before.session_ok count_type table
    session-before =
        implies-same (eqb (code i) 16) _ _ (λ q.
        rw (session-set i (words_are 16 19 tt q), one-contests h (Before.session_contests i)))

    ballot-before : ballot_ok f h i ≡ Before.ballot_ok f h i
    unfolding ballot_ok Before.ballot_ok count_within table
    ballot-before =
        implies-same (eqb (code i) 19) _ _ (λ q.
        let w = word 0 i in
        let is = eqb→eq (code i) 19 q in
        let some = count-within-law 19 18 545 (count_of i.head) tt l is c in
        let no = ne_eqb (code i) 1 (omega arith) in
        let none = ne_eqb (code i) 16 (omega arith) in
        rw (
          part-one 0 i.content 0 (omega (arith, shaped.content)),
          one_size w,
          one-all w (may_vote h i) (Before.may_vote h i) (vote-before o i no none),
          one-cryptograms 17 (Before.size w) i.content,
        ))

    trustees-before : trustees_ok h i ≡ Before.trustees_ok h i
    unfolding trustees_ok Before.trustees_ok
    trustees-before =
        let w = word 0 i in
        let below : ℕ → Bool = λ j. ltb j (word 0 (item_no h (first (typed 4) h))) in
        rw (one_size w, one-all w below below (λ j l. refl))

    same-content : content_ok f h i ≡ (genesis_ok i && Before.content_ok f h i)
    unfolding content_ok Before.content_ok
    same-content =
        rw (contest-before, round-before, session-before, ballot-before, trustees-before) (by-test (genesis_ok i) (λ q. rw q) (λ q. rw q))

  pub content-before : {on : Eligibility} {ws vs : List ℕ} {h : History} → Passed f on ws vs h → (i : Item) → Shaped f i
      → (l : Listed f i.head) → T (fits l.row.counts (count_of i.head)) → content_ok f h i ≡ (genesis_ok i && Before.content_ok f h i)
  content-before p i shaped l c = same-content (orderly p) i shaped l c
