-- What check 6 says of each type, and check 13 of thresholds, rounds, sessions, commitments, confirmations and the contests of a ballot, for sets of any
-- number of words. Paper: "Item types", "Content", requests (v), (ix). Assumes nothing.
use Prim.Native.Nat.{ℕ, zero, suc, ◌+◌, ◌-◌, ◌*◌, ◌%◌, ◌^◌, ◌≤◌, ◌<◌, suc-le-suc}
use native.Mathlib.Nat.{le_refl, not-suc-le-zero, le_of_suc-le-suc, zero-lt-suc}
use native.Mathlib.Omega.{arith}
use mathlib.Core.Path.{◌≡◌, refl, sym, subst}
use mathlib.Core.Logic.{◌≢◌, ◌↔◌, ◌⊎◌, ⊎_elim}
use mathlib.Core.Bool.{Bool, true, false, ◌&&◌, ◌||◌}
use mathlib.Core.List.{List, [], ◌∷◌, map}
use lib.ListN.{length, get_or}
use lib.Seq.{take_all}
use lib.Dec.{T, eqb, leb, ltb, eqb→eq}
use borrow.Author.Tests.{eqb-true}
use Rattle.model.specs.Lists.{if◌then◌otherwise◌, ◌⇒◌, any, has, keep, latest}
use Rattle.model.specs.Words.{code_of, member, size, all_in, low_zero, same_words}
use Rattle.model.specs.Format.{Format, Hashes, secp256r1, secp384r1, secp521r1, format_on}
use Rattle.model.specs.Traits.{format_of}
use Rattle.model.specs.Item.{Item, code, time, word}
use Rattle.model.specs.Types.{Counts, from◌to◌, set_and_each, Row, table}
use Rattle.model.specs.History.{History, absent, entry, item_no, first, typed, session_number, session_contests}
use Rattle.model.specs.Counted.{contents, counted}
use Rattle.model.specs.Phase.{same_round, rounds, is_open, round_contests, round_start, round_end}
use Rattle.model.specs.Content.{defines, contests_ok, enables, may_vote, genesis_ok, contest_ok, threshold_ok, authorizer_ok, round_ok, session_ok, commitment_ok, ballot_ok, fingerprint_ok, trustees_ok, content_ok, Defined, Enables}
use Rattle.model.proofs.Tests.{by-test, passes, by-if, not_iff, or_left, or_right, eq→eqb, and-iff, eqb-iff, leb-iff, same-iff, facts, tests}
use Rattle.model.proofs.Rules.{and_nothing, alone}
use Rattle.model.proofs.Lists.{Every, every, any-kept}
use Rattle.model.proofs.Numbers.{any-before, entry-inside, first_found}
use Rattle.model.proofs.State.{any-first}
use Rattle.model.proofs.Sets.{set_all}

-- the counts of the types in the order of their codes, where a commitment, a cryptogram and a set have so many words: sets grow in types 6, 16
-- and 19, commitments are types 17 and 18, cryptograms stand in 19, and nothing else depends on a curve or on a width
abbrev counts_with : (commitment cryptogram sets : ℕ) → List Counts
counts_with commitment cryptogram w =
    from◌to◌ 17 18 ∷ from◌to◌ 0 64 ∷ from◌to◌ 1 65 ∷ from◌to◌ 10 10 ∷ from◌to◌ 9 9 ∷ from◌to◌ (5 + w) (5 + w) ∷ from◌to◌ (18 + w) (18 + w)
    ∷ from◌to◌ commitment commitment ∷ from◌to◌ commitment commitment ∷ set_and_each w cryptogram
    ∷ from◌to◌ 0 0 ∷ from◌to◌ 0 0 ∷ from◌to◌ 0 0 ∷ from◌to◌ 8 8 ∷ set_and_each 1 16 ∷ from◌to◌ 0 0 ∷ from◌to◌ 8 8 ∷ from◌to◌ 1 256 ∷ from◌to◌ 1 256 ∷ []

abbrev counts_of : Format → List Counts
counts_of f = map (λ (r : Row). r.counts) (table f)

module _ (s : Hashes) (w : ℕ) where
  pub table-counts : (counts_of (format_on s secp256r1 w) ≡ counts_with 9 17 w)
      × (counts_of (format_on s secp384r1 w) ≡ counts_with 13 25 w)
      × (counts_of (format_on s secp521r1 w) ≡ counts_with 17 34 w)
  unfolding table
  table-counts = (refl, refl, refl)

is-defined : (h : History) (j : ℕ) → T (any (defines j) h) → Defined h j
is-defined h j t =
    let n = first (defines j) h in
    let some : n ≢ 0 = λ q. absurd (rw (any-first (defines j) h, q) at t) in
    let (kind, number) = simp facts at (first_found (defines j) h (omega arith)) in
    (n, kind, number)

defined : (h : History) (j : ℕ) → Defined h j → T (any (defines j) h)
unfolding entry code_of
defined h j (zero, kind, number) = absurd (omega arith)
defined h j (suc s, kind, number) =
    let (one, all) = entry-inside h (suc s) (omega arith) in
    rw (take_all (length h) h (le_refl (length h))) at (any-before (defines j) h s (length h) all all (simp facts (kind, number)))

-- "contests not empty and all defined by a type 3 already"
contests-pass : (h : History) (s : List ℕ) → T (contests_ok h s) ↔ ((1 ≤ size s) × ((j : ℕ) → T (member s j) → Defined h j))
unfolding contests_ok
contests-pass h s =
    let all = set_all s (λ j. any (defines j) h) in (
      λ t. let (some, in_all) = simp and-iff at t in (omega (arith, tests), λ j m. is-defined h j (all.0 in_all j m)),
      λ (some, each). simp and-iff ((omega (arith, tests)), all.1 (λ j m. defined h j (each j m))),
    )

module _ (f : Format) (h : History) (i : Item) where
  round-content : code i ≡ 6 → content_ok f h i ≡ (leb (word 0 i) 15 && ltb (round_start i) (round_end i) && contests_ok h (round_contests i))
  unfolding content_ok genesis_ok contest_ok threshold_ok authorizer_ok round_ok session_ok commitment_ok ballot_ok fingerprint_ok trustees_ok ◌⇒◌ and_nothing
  round-content c = rw c (alone 5 _)

  pub round-passes : code i ≡ 6 → T (content_ok f h i)
      ↔ ((word 0 i ≤ 15) × (round_start i < round_end i) × (1 ≤ size (round_contests i)) × ((j : ℕ) → T (member (round_contests i) j) → Defined h j))
  round-passes c =
      let contests = contests-pass h (round_contests i) in
      rw (round-content c) (
        λ t. let ((n, rising), ok) = simp facts at t in let (some, each) = contests.0 ok in (n, rising, some, each),
        λ (n, rising, some, each). simp facts ((n, rising), contests.1 (some, each)),
      )

  session-content : code i ≡ 16 → content_ok f h i ≡ (leb 1 (word 1 i) && contests_ok h (session_contests i))
  unfolding content_ok genesis_ok contest_ok threshold_ok authorizer_ok round_ok session_ok commitment_ok ballot_ok fingerprint_ok trustees_ok ◌⇒◌ and_nothing
  session-content c = rw c (alone 4 _)

  pub session-passes : code i ≡ 16 → T (content_ok f h i)
      ↔ ((1 ≤ word 1 i) × (1 ≤ size (session_contests i)) × ((j : ℕ) → T (member (session_contests i) j) → Defined h j))
  session-passes c =
      let contests = contests-pass h (session_contests i) in
      rw (session-content c) (
        λ t. let (n, ok) = simp facts at t in let (some, each) = contests.0 ok in (n, some, each),
        λ (n, some, each). simp facts (n, contests.1 (some, each)),
      )

-- ---- commitments

module _ (f : Format) (h : History) (i : Item) where
  commitment-content : (code i ≡ 17) ⊎ (code i ≡ 18) → content_ok f h i ≡ low_zero f.spare (word (f.commitment - 1) i)
  unfolding content_ok genesis_ok contest_ok threshold_ok authorizer_ok round_ok session_ok commitment_ok ballot_ok fingerprint_ok trustees_ok ◌⇒◌ and_nothing
  commitment-content = ⊎_elim (λ c. rw c (alone 3 _)) (λ c. rw c (alone 3 _))

  low_bits : (code i ≡ 17) ⊎ (code i ≡ 18) → T (content_ok f h i) ↔ (word (f.commitment - 1) i % 2 ^ f.spare ≡ 0)
  unfolding low_zero
  low_bits c = rw (commitment-content c) (eqb-iff _ _)

module _ (s : Hashes) (w : ℕ) (h : History) (i : Item) (c : (code i ≡ 17) ⊎ (code i ≡ 18)) where
  -- 17 and 18: "a commitment's last word having its low 24, 24 or 8 bits zero"
  pub commitment-passes : (T (content_ok (format_on s secp256r1 w) h i) ↔ (word 8 i % 2 ^ 24 ≡ 0))
      × (T (content_ok (format_on s secp384r1 w) h i) ↔ (word 12 i % 2 ^ 24 ≡ 0))
      × (T (content_ok (format_on s secp521r1 w) h i) ↔ (word 16 i % 2 ^ 8 ≡ 0))
  commitment-passes = (low_bits _ h i c, low_bits _ h i c, low_bits _ h i c)

-- ---- what does not grow: fingerprints, thresholds and trustees

module _ (s : Hashes) (ws : List ℕ) (h : History) (i : Item) where
  extraction-content : code i ≡ 33 → content_ok (format_of s ws) h i ≡ same_words i.content (s.sha256 (contents (counted h)))
  unfolding content_ok genesis_ok contest_ok threshold_ok authorizer_ok round_ok session_ok commitment_ok ballot_ok fingerprint_ok trustees_ok ◌⇒◌ and_nothing
  extraction-content c = rw c (alone 1 _)

  pub fingerprint-passes : code i ≡ 33 → T (content_ok (format_of s ws) h i) ↔ (i.content ≡ s.sha256 (contents (counted h)))
  fingerprint-passes c = rw (extraction-content c) (same-iff _ _)

module _ (f : Format) (h : History) (i : Item) where
  threshold-content : code i ≡ 4 → content_ok f h i ≡ (leb 1 (word 1 i) && leb (word 1 i) (word 0 i) && leb (word 0 i) 32)
  unfolding content_ok genesis_ok contest_ok threshold_ok authorizer_ok round_ok session_ok commitment_ok ballot_ok fingerprint_ok trustees_ok ◌⇒◌ and_nothing
  threshold-content c = rw c (alone 7 _)

  -- 4: 1 ≤ t ≤ m ≤ 32, at either width
  pub threshold-passes : code i ≡ 4 → T (content_ok f h i) ↔ ((1 ≤ word 1 i) × (word 1 i ≤ word 0 i) × (word 0 i ≤ 32))
  threshold-passes c =
      rw (threshold-content c) (
        λ t. let ((a, b), c) = simp facts at t in (a, b, c),
        λ (a, b, c). simp facts ((a, b), c),
      )

  authorizer-content : code i ≡ 5 → content_ok f h i ≡ (leb 1 (word 0 i) && leb (word 0 i) 2)
  unfolding content_ok genesis_ok contest_ok threshold_ok authorizer_ok round_ok session_ok commitment_ok ballot_ok fingerprint_ok trustees_ok ◌⇒◌ and_nothing
  authorizer-content c = rw c (alone 6 _)

  -- 5: mode 1 or 2
  pub authorizer-passes : code i ≡ 5 → T (content_ok f h i) ↔ ((1 ≤ word 0 i) × (word 0 i ≤ 2))
  authorizer-passes c = rw (authorizer-content c) (simp facts (λ t. t, λ t. t))

  any_code : (cs : List ℕ) → Every (λ c. code i ≡ c → T (content_ok f h i)) cs → T (has (code i) cs) → T (content_ok f h i)
  unfolding any
  any_code [] all t = absurd t
  any_code (c ∷ cs) (now, all) t = by-test (eqb (code i) c) (λ q. now (eqb-true (code i) c q)) (λ q. any_code cs all (rw q at t))

  -- of the other types nothing is asked
  pub others-pass : T (has (code i) (2 ∷ 20 ∷ 21 ∷ 32 ∷ 48 ∷ 49 ∷ 50 ∷ 51 ∷ [])) → T (content_ok f h i)
  unfolding content_ok genesis_ok contest_ok threshold_ok authorizer_ok round_ok session_ok commitment_ok ballot_ok fingerprint_ok trustees_ok ◌⇒◌
  others-pass = any_code (2 ∷ 20 ∷ 21 ∷ 32 ∷ 48 ∷ 49 ∷ 50 ∷ 51 ∷ [])
      (λ e. rw e tt, (λ e. rw e tt, (λ e. rw e tt, (λ e. rw e tt, (λ e. rw e tt, (λ e. rw e tt, (λ e. rw e tt, (λ e. rw e tt, tt))))))))

  abbrev trustee_set : List ℕ
  trustee_set = word 0 i ∷ []

  abbrev standing_threshold : Item
  standing_threshold = item_no h (first (typed 4) h)

  trustees-content : code i ≡ 34 → content_ok f h i ≡ (eqb (length i.content) (1 + size trustee_set * 16)
      && all_in trustee_set (λ j. ltb j (word 0 standing_threshold)) && leb (word 1 standing_threshold) (size trustee_set))
  unfolding content_ok genesis_ok contest_ok threshold_ok authorizer_ok round_ok session_ok commitment_ok ballot_ok fingerprint_ok trustees_ok ◌⇒◌
  trustees-content c = rw c

  -- 34: one word of trustees at either width
  pub trustees-pass : code i ≡ 34 → T (content_ok f h i)
      ↔ ((length i.content ≡ 1 + size trustee_set * 16)
      × ((j : ℕ) → T (member trustee_set j) → j < word 0 standing_threshold) × (word 1 standing_threshold ≤ size trustee_set))
  trustees-pass c =
      let all = set_all trustee_set (λ j. ltb j (word 0 standing_threshold)) in
      rw (trustees-content c) (
        λ t. let ((n, below), enough) = simp and-iff at t in (eqb→eq _ _ n, λ j m. (leb-iff _ _).0 (all.0 below j m), (leb-iff _ _).0 enough),
        λ (n, below, enough). simp and-iff ((eq→eqb _ _ n, all.1 (λ j m. (leb-iff _ _).1 (below j m))), (leb-iff _ _).1 enough),
      )

-- ---- the rounds in force, by number

either : {X : Type 0} (a b : Bool) → (T a → X) → (T b → X) → T (a || b) → X
either true b g k t = g tt
either false b g k t = k t

module _ {A B : Type 0} (q : A → Bool) (f : A → B) (r : B → B → Bool) (p : B → Bool) (d : A) where
  -- no later element that is kept replaces element k
  abbrev Last : List A → ℕ → Type 0
  Last xs k = (n : ℕ) → k < n → n < length xs → T (q (get_or xs n d)) → T (r (f (get_or xs k d)) (f (get_or xs n d))) → ⊥

  -- element k is kept, passes, and is not replaced
  abbrev Stays : List A → ℕ → Type 0
  Stays xs k = (k < length xs) × T (q (get_or xs k d)) × T (p (f (get_or xs k d))) × Last xs k

  -- an element that passes is found, and one that is found passes
  at : (g : A → Bool) (xs : List A) (n : ℕ) → n < length xs → T (g (get_or xs n d)) → T (any g xs)
  unfolding any
  at g [] n l t = absurd (not-suc-le-zero l)
  at g (x ∷ xs) zero l t = or_left (g x) (any g xs) t
  at g (x ∷ xs) (suc n) l t = or_right (g x) (any g xs) (at g xs n (le_of_suc-le-suc l) t)

  one : (g : A → Bool) (xs : List A) → T (any g xs) → (n : ℕ) × (n < length xs) × T (g (get_or xs n d))
  unfolding any
  one g [] t = absurd t
  one g (x ∷ xs) t =
      by-test (g x) (λ c. (0, zero-lt-suc (length xs), passes c)) (λ c. let (n, l, a) = one g xs (rw c at t) in (suc n, suc-le-suc l, a))

  any-both : (g : B → Bool) (xs : List A) → any (λ x. q x && g (f x)) xs ≡ any g (keep q f xs)
  any-both g xs = any-kept q f g (λ x. q x && g (f x)) xs (every _ (λ x. refl) xs)

  none_kept : (g : B → Bool) (xs : List A) → (T (any g (keep q f xs)) → ⊥) → (n : ℕ) → n < length xs → T (q (get_or xs n d)) → T (g (f (get_or xs n d))) → ⊥
  none_kept g xs e n l a b =
      e (subst T (any-both g xs) (at (λ x. q x && g (f x)) xs n l ((and-iff (q (get_or xs n d)) (g (f (get_or xs n d)))).1 (a, b))))

  found : (g : B → Bool) (xs : List A) → T (any g (keep q f xs)) → (n : ℕ) × (n < length xs) × T (q (get_or xs n d)) × T (g (f (get_or xs n d)))
  found g xs t =
      let (n, l, u) = one (λ x. q x && g (f x)) xs (subst T (sym (any-both g xs)) t) in
      let (a, b) = (and-iff (q (get_or xs n d)) (g (f (get_or xs n d)))).0 u in
      (n, l, a, b)

  last-first : (x : A) (xs : List A) → (T (any (r (f x)) (keep q f xs)) → ⊥) → Last (x ∷ xs) 0
  last-first x xs e zero l m a b = absurd (not-suc-le-zero l)
  last-first x xs e (suc n) l m a b = none_kept (r (f x)) xs e n (le_of_suc-le-suc m) a b

  last-next : (x : A) (xs : List A) (k : ℕ) → Last xs k → Last (x ∷ xs) (suc k)
  last-next x xs k s zero l m a b = absurd (not-suc-le-zero l)
  last-next x xs k s (suc n) l m a b = s n (le_of_suc-le-suc l) (le_of_suc-le-suc m) a b

  further : (x : A) (xs : List A) → (k : ℕ) × Stays xs k → (k : ℕ) × Stays (x ∷ xs) k
  further x xs (k, (l, a, b, s)) = (suc k, (suc-le-suc l, a, b, last-next x xs k s))

  stays : (xs : List A) → T (any p (latest r (keep q f xs))) → (k : ℕ) × Stays xs k
  unfolding any keep latest if◌then◌otherwise◌
  stays [] = λ t. absurd t
  stays (x ∷ xs) =
      let Found : Type 0 = (k : ℕ) × Stays (x ∷ xs) k in
      let replaced = any (r (f x)) (keep q f xs) in
      by-if (λ (ys : List B). T (any p (latest r ys)) → Found) (q x) _ _
      (λ a. by-if (λ (ys : List B). T (any p ys) → Found) replaced _ _
      (λ b t. further x xs (stays xs t))
      (λ b. either (p (f x)) _ (λ c. (0, (zero-lt-suc (length xs), a, c, last-first x xs ((not_iff replaced).0 b)))) (λ t. further x xs (stays xs t))))
      (λ a t. further x xs (stays xs t))

  standing : (xs : List A) (k : ℕ) → Stays xs k → T (any p (latest r (keep q f xs)))
  unfolding any keep latest if◌then◌otherwise◌
  standing [] k (l, a, b, s) = absurd (not-suc-le-zero l)
  standing (x ∷ xs) zero (l, a, b, s) =
      by-if (λ (ys : List B). T (any p (latest r ys))) (q x) _ _
      (λ t. by-if (λ (ys : List B). T (any p ys)) (any (r (f x)) (keep q f xs)) _ _
      (λ u. let (n, m, c, e) = found (r (f x)) xs u in absurd (s (suc n) (zero-lt-suc n) (suc-le-suc m) c e))
      (λ u. or_left (p (f x)) _ b))
      (λ t. absurd ((not_iff (q x)).0 t a))
  standing (x ∷ xs) (suc k) (l, a, b, s) =
      let rest = standing xs k (le_of_suc-le-suc l, a, b, λ n i m c e. s (suc n) (suc-le-suc i) (suc-le-suc m) c e) in
      by-if (λ (ys : List B). T (any p (latest r ys))) (q x) _ _
      (λ t. by-if (λ (ys : List B). T (any p ys)) (any (r (f x)) (keep q f xs)) _ _ (λ u. rest) (λ u. or_right (p (f x)) _ rest))
      (λ t. rest)

not-replaced : (h : History) (t j k : ℕ) → Last (typed 6) (λ e. e.item) same_round (enables t j) absent h k
    → (n : ℕ) → suc k < n → code (item_no h n) ≡ 6 → word 0 (item_no h n) ≢ word 0 (item_no h (suc k))
unfolding entry code_of
not-replaced h t j k last zero l c e = absurd (not-suc-le-zero l)
not-replaced h t j k last (suc n) l c e =
    let (one, all) = entry-inside h (suc n) (omega arith) in
    last n (omega arith) (omega arith) (eq→eqb _ 6 c) (eq→eqb _ _ (sym e))

enabled : (h : History) (t j : ℕ) → T (any (enables t j) (rounds h)) → (k : ℕ) × Enables h t j k
unfolding rounds is_open entry
enabled h t j a =
    let (k, (l, is-round, ok, last)) = stays (typed 6) (λ e. e.item) same_round (enables t j) absent h a in
    let ((start, end), has) = simp facts at ok in
    (suc k, ((eqb→eq _ 6 is-round, not-replaced h t j k last), start, end, has))

enabling : (h : History) (t j k : ℕ) → Enables h t j k → T (any (enables t j) (rounds h))
unfolding rounds is_open entry code_of
enabling h t j zero ((six, last), start, end, has) = absurd (omega arith)
enabling h t j (suc k) ((six, last), start, end, has) =
    let (one, all) = entry-inside h (suc k) (omega arith) in
    standing (typed 6) (λ e. e.item) same_round (enables t j) absent h k
    (omega arith, eq→eqb _ 6 six, simp facts ((start, end), has), λ n l m a b. last (suc n) (omega arith) (eqb→eq _ 6 a) (sym (eqb→eq _ _ b)))

-- "each contest is in the session's set and enabled by an open round"
pub may-vote : (h : History) (i : Item) (j : ℕ) → T (may_vote h i j)
    ↔ (T (member (session_contests (item_no h (session_number h i))) j) × ((k : ℕ) × Enables h (time i) j k))
unfolding may_vote
may-vote h i j =
    let both = and-iff (member (session_contests (item_no h (session_number h i))) j) (any (enables (time i) j) (rounds h)) in (
      λ t. let (own, open-round) = both.0 t in (own, enabled h (time i) j open-round),
      λ (own, (k, e)). both.1 (own, enabling h (time i) j k e),
    )
