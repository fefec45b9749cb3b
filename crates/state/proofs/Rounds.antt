-- The rounds in force by their numbers: a later type 6 with the same number replaces the earlier, so of each number 0..15 at most one round
-- stands, and the code keeps sixteen item numbers in place of the list. Paper: "Phases". Assumes nothing.
use Prim.Native.Nat.{ℕ, zero, suc, ◌+◌, ◌/◌, ◌%◌, ◌≤◌, ◌<◌}
use native.Mathlib.Nat.{not-suc-le-zero, le_refl}
use native.Mathlib.Numerals.{add-one}
use native.Mathlib.Omega.{arith}
use mathlib.Core.Path.{◌≡◌, refl, sym, ap, subst, ◌∙◌}
use mathlib.Core.Bool.{Bool, true, false, not, ◌&&◌, ◌||◌, and-false, or-true, or-false}
use mathlib.Core.List.{List, [], ◌∷◌, ◌++◌}
use lib.Bits.{bit_or}
use lib.ListN.{length, get_or}
use lib.Dec.{T, eqb, eqb→eq}
use borrow.Author.Tests.{eqb-true, eqb-false, eq-eqb, ne_eqb}
use Rattle.model.specs.Lists.{if◌then◌otherwise◌, any, keep, latest}
use Rattle.model.specs.Words.{set_bits, bit, in_words}
use Rattle.model.specs.Codes.{round_type}
use Rattle.model.specs.Format.{Format}
use Rattle.model.specs.Item.{Item, code}
use Rattle.model.specs.History.{History, Entry, absent, entry_of, item_no, items_with, last_from, typed}
use Rattle.model.specs.Phase.{round_number, round_contests, same_round, rounds, is_open}
use Rattle.model.specs.Content.{enables, round_ok}
use Rattle.model.specs.Roll.{Eligibility}
use Rattle.model.specs.Sound.{Meets, Passed, none, next}
use Rattle.model.proofs.Tests.{by-test, passes, facts}
use Rattle.model.proofs.Lists.{Every, every-snoc}
use Rattle.model.proofs.Numbers.{last_entry, entry-last}
use Rattle.model.proofs.State.{last_snoc, any_last}
use Rattle.model.proofs.Rules.{content-rules}
use Rattle.model.proofs.Sets.{bit-zero}
use Rattle.sets.proofs.Bits.{bit-or}
use Rattle.state.specs.Standing.{any_below, union_below, numbered, round_at, slots, open_word, enabled_word}

-- ---- whether any number below n passes a test, and the union of the words of the numbers below n

pub any_below-ext : (n : ℕ) (p q : ℕ → Bool) → ((j : ℕ) → j < n → p j ≡ q j) → any_below n p ≡ any_below n q
unfolding any_below
any_below-ext zero p q same = refl
any_below-ext (suc n) p q same = rw (same n (le_refl (suc n)), any_below-ext n p q (λ j l. same j (omega arith)))

any_below-false : (n : ℕ) (p : ℕ → Bool) → ((j : ℕ) → p j ≡ false) → any_below n p ≡ false
unfolding any_below
any_below-false zero p out = refl
any_below-false (suc n) p out = rw (out n) (any_below-false n p out)

module _ (p : ℕ → Bool) where
  -- one that passes is enough
  pub any_below-found : (n k : ℕ) → k < n → p k ≡ true → any_below n p ≡ true
  unfolding any_below
  any_below-found zero k l q = absurd (not-suc-le-zero l)
  any_below-found (suc n) k l q =
      by-test (eqb k n)
      (λ e. rw (← eqb-true k n e, q))
      (λ e. rw (any_below-found n k (omega (arith, eqb-false k n e)) q) (or-true (p n)))

  pub any_below-next : (k : ℕ) → any_below (k + 1) p ≡ (p k || any_below k p)
  unfolding any_below
  any_below-next k = rw add-one

-- r passes where q does, which does not at n, and perhaps at n
any_below-put : (m n : ℕ) (q r : ℕ → Bool) → n < m → q n ≡ false → ((j : ℕ) → (n ≡ j → ⊥) → r j ≡ q j)
    → any_below m r ≡ (r n || any_below m q)
unfolding any_below
any_below-put zero n q r l out same = absurd (not-suc-le-zero l)
any_below-put (suc m) n q r l out same =
    by-test (eqb n m)
    (λ e. rw (← eqb-true n m e, out) (ap (r n ||◌) (any_below-ext n r q (λ j k. same j (λ z. omega arith)))))
    (λ e. let rest = any_below-put m n q r (omega (arith, eqb-false n m e)) out same in
    rw (same m (eqb-false n m e), rest) (by-test (q m) (λ a. rw (a, or-true)) (λ a. rw a)))

module _ (f : ℕ → ℕ) where
  -- one step of the loop
  pub union_below-next : (k : ℕ) → union_below (k + 1) f ≡ bit_or (union_below k f) (f k)
  unfolding union_below
  union_below-next k = rw add-one

  pub bit-union : (n j : ℕ) → bit (union_below n f) j ≡ any_below n (λ k. bit (f k) j)
  unfolding union_below any_below
  bit-union zero j = bit-zero j
  bit-union (suc n) j =
      rw (bit-or (union_below n f) (f n) j, bit-union n j) (by-test (bit (f n) j) (λ q. rw (q, or-true)) (λ q. rw (q, or-false)))

-- ---- the last entry that passes a test

or-none : (a b : Bool) → (a || b) ≡ false → (a ≡ false) × (b ≡ false)
or-none true b q = (q, cc)
or-none false b q = (refl, q)

module _ (t : Entry → Bool) where
  last-bound-from : (k found : ℕ) (es : List Entry) → found ≤ k → last_from (suc k) found t es ≤ k + length es
  unfolding last_from if◌then◌otherwise◌
  last-bound-from k found [] l = omega arith
  last-bound-from k found (e ∷ es) l =
      by-test (t e)
      (λ q. rw q (omega (arith, last-bound-from (suc k) (suc k) es (le_refl (suc k)))))
      (λ q. rw q (omega (arith, last-bound-from (suc k) found es (omega arith))))

  last_entry-none : (d : Entry) (es : List Entry) → any t es ≡ false → last_entry d t es ≡ d
  unfolding last_entry any if◌then◌otherwise◌
  last_entry-none d [] q = refl
  last_entry-none d (e ∷ es) q = let (a, b) = or-none (t e) (any t es) q in rw a (last_entry-none d es b)

  -- whether the last one passes p
  module _ (p : Item → Bool) where
    unfoldable last_passes : List Entry → Bool
    unfolding if◌then◌otherwise◌
    last_passes [] = false
    last_passes (e ∷ es) = if any t es then last_passes es otherwise t e && p e.item

    passes_none : (es : List Entry) → any t es ≡ false → last_passes es ≡ false
    unfolding last_passes any if◌then◌otherwise◌
    passes_none [] q = refl
    passes_none (e ∷ es) q = let (a, b) = or-none (t e) (any t es) q in rw (b, a)

    passes-skip : (e : Entry) (es : List Entry) → t e ≡ false → last_passes (e ∷ es) ≡ last_passes es
    unfolding last_passes if◌then◌otherwise◌
    passes-skip e es q = by-test (any t es) (λ a. rw a) (λ a. rw (a, q, passes_none es a))

    -- that last one, where d is none of the entries
    passes-last : (d : Entry) (es : List Entry) → last_passes es ≡ (any t es && p (last_entry d t es).item)
    unfolding last_passes last_entry any if◌then◌otherwise◌
    passes-last d [] = refl
    passes-last d (e ∷ es) =
        by-test (any t es)
        (λ a. by-test (t e) (λ b. rw (b, passes-last e es, a)) (λ b. rw (b, passes-last d es, a)))
        (λ a. by-test (t e) (λ b. rw (a, b, last_entry-none e es a)) (λ b. rw (a, b)))

-- ---- the rounds by number

abbrev pub RoundSmall : Entry → Type 0
RoundSmall e = T (typed round_type e) → round_number e.item < slots

pub round_at-snoc : (h : History) (e : Entry) (j : ℕ) → round_at (h ++ (e ∷ [])) j ≡ (if numbered j e then suc (length h) otherwise round_at h j)
round_at-snoc h e j = last_snoc (numbered j) h e

pub round_at-none : (j : ℕ) → round_at [] j ≡ 0
unfolding last_from
round_at-none j = refl

pub round_at-bound : (h : History) (j : ℕ) → round_at h j ≤ length h
round_at-bound h j = omega (arith, last-bound-from (numbered j) 0 0 h (le_refl 0))

eqb-sym : (m n : ℕ) → eqb m n ≡ eqb n m
eqb-sym m n =
    by-test (eqb m n) (λ q. rw q (sym (eq-eqb n m (sym (eqb-true m n q))))) (λ q. rw q (sym (ne_eqb n m (λ e. eqb-false m n q (sym e)))))

any_same : (r : Item) (es : List Entry) → any (same_round r) (items_with (typed round_type) es) ≡ any (numbered (round_number r)) es
unfolding any keep if◌then◌otherwise◌
any_same r [] = refl
any_same r (e ∷ es) =
    by-test (typed round_type e)
    (λ q. rw (q, eqb-sym (round_number r) (round_number e.item), any_same r es))
    (λ q. rw q (any_same r es))

module _ (p : Item → Bool) where
  -- the round in force with the number j passes p
  abbrev slot : List Entry → ℕ → Bool
  slot es j = last_passes (numbered j) p es

  -- one more entry in front changes no slot but its own, and that one only where no later round has its number
  slot-other : (e : Entry) (es : List Entry) (j : ℕ) → (round_number e.item ≡ j → ⊥) → slot (e ∷ es) j ≡ slot es j
  slot-other e es j d = passes-skip (numbered j) p e es (rw (ne_eqb (round_number e.item) j d) (and-false (typed round_type e)))

  slot-later : (e : Entry) (es : List Entry) (j : ℕ) → any (numbered (round_number e.item)) es ≡ true → slot (e ∷ es) j ≡ slot es j
  unfolding last_passes if◌then◌otherwise◌
  slot-later e es j a =
      let n = round_number e.item in
      by-test (eqb n j)
      (λ q. subst (λ (k : ℕ). slot (e ∷ es) k ≡ slot es k) (eqb-true n j q) (rw a))
      (λ q. slot-other e es j (eqb-false n j q))

  slot-own : (e : Entry) (es : List Entry) → typed round_type e ≡ true → any (numbered (round_number e.item)) es ≡ false
      → slot (e ∷ es) (round_number e.item) ≡ p e.item
  unfolding last_passes if◌then◌otherwise◌
  slot-own e es q a = let n = round_number e.item in rw (a, q, eq-eqb n n refl)

  any-slots : (m : ℕ) (es : List Entry) → Every (λ e. T (typed round_type e) → round_number e.item < m) es
      → any p (latest same_round (items_with (typed round_type) es)) ≡ any_below m (slot es)
  unfolding any keep latest if◌then◌otherwise◌
  any-slots m [] small = sym (any_below-false m (slot []) (λ j. passes_none (numbered j) p [] refl))
  any-slots m (e ∷ es) small =
      let rest = any-slots m es small.1 in
      let n = round_number e.item in
      by-test (typed round_type e)
      (λ q. rw (q, any_same e.item es) (by-test (any (numbered n) es)
      (λ a. rw a (rest ∙ any_below-ext m (slot es) (slot (e ∷ es)) (λ j l. sym (slot-later e es j a))))
      (λ a. let put = any_below-put m n (slot es) (slot (e ∷ es)) (small.0 (passes q)) (passes_none (numbered n) p es a) (λ j d. slot-other e es j d) in
      rw (a, rest, put, slot-own e es q a))))
      (λ q. rw q (rest ∙ any_below-ext m (slot es) (slot (e ∷ es)) (λ j l. sym (passes-skip (numbered j) p e es (rw q)))))

  pub any-rounds : (h : History) → Every RoundSmall h → any p (rounds h) ≡ any_below slots (λ j. not (eqb (round_at h j) 0) && p (item_no h (round_at h j)))
  unfolding rounds
  any-rounds h small =
      any-slots slots h small
      ∙ any_below-ext slots (slot h) (λ j. not (eqb (round_at h j) 0) && p (item_no h (round_at h j)))
      (λ j l. rw (← any_last (numbered j) h)
      (passes-last (numbered j) p absent h ∙ ap (λ (e : Entry). any (numbered j) h && p e.item) (sym (entry-last (numbered j) h))))

-- ---- the contests that the open rounds enable

bit-if : (a b : Bool) (w j : ℕ) → bit (if a && b then w otherwise 0) j ≡ (a && (b && bit w j))
unfolding if◌then◌otherwise◌
bit-if true true w j = refl
bit-if true false w j = bit-zero j
bit-if false b w j = bit-zero j

module _ (t : ℕ) (h : History) where
  pub member-enabled : (j : ℕ) → Every RoundSmall h → in_words (enabled_word t h) j ≡ any (enables t j) (rounds h)
  unfolding enabled_word open_word in_words
  member-enabled j small =
      let k = j / set_bits in
      let l = j % set_bits in
      bit-union (open_word t h k) slots l
      ∙ any_below-ext slots (λ n. bit (open_word t h k n) l) (λ n. not (eqb (round_at h n) 0) && enables t j (item_no h (round_at h n)))
      (λ n m. let r = item_no h (round_at h n) in bit-if (not (eqb (round_at h n) 0)) (is_open t r) (get_or (round_contests r) k 0) l)
      ∙ sym (any-rounds (enables t j) h small)

-- ---- a passed history

-- what every item that meets the rules has, every entry has
pub passed-each : {f : Format} {on : Eligibility} (P : Entry → Type 0)
    → ((g : History) (v : List ℕ) (i : Item) (n : ℕ) → Meets f on g v i → P (entry_of g n i))
    → {ws vs : List ℕ} {h : History} → Passed f on ws vs h → Every P h
passed-each P all none = tt
passed-each P all (next us ts g v i b m) = every-snoc P g (entry_of g (length us) i) (passed-each P all b) (all g v i (length us) m)

pub rounds-small : {f : Format} {on : Eligibility} {ws vs : List ℕ} {h : History} → Passed f on ws vs h → Every RoundSmall h
unfolding entry_of round_ok
rounds-small b = passed-each RoundSmall (λ g v i n m t.
    let ok = (simp facts at (content-rules m.content).round (eqb→eq (code i) round_type t)).0.0 in omega arith) b
