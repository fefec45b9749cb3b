-- The roll: every session names a pair of it, all sessions of a voter have one weight, and the counted ballots weigh no more than the roll.
-- Paper: request (i). Assumes nothing.
use Prim.Native.Nat.{ℕ, zero, suc, ◌+◌, ◌*◌, ◌/◌, ◌%◌, ◌≤◌, ◌<◌, zero-le, suc-le-suc}
use native.Mathlib.Nat.{not-suc-le-zero, le_of_suc-le-suc, zero-lt-suc, lt_trans}
use native.Mathlib.Omega.{arith}
use mathlib.Core.Path.{◌≡◌, refl, sym, ap, subst, subst₂, ◌∙◌}
use mathlib.Core.Logic.{◌≢◌, ◌↔◌}
use mathlib.Core.Bool.{false, not, ◌||◌}
use mathlib.Core.List.{List, [], ◌∷◌, map}
use lib.ListN.{length, get_or}
use lib.Arith.{le→nltb}
use lib.Dec.{T, eqb, ltb, eqb→eq, eqb_refl, ltb→lt, nltb→le, lt→ltb}
use borrow.Author.Tests.{ne_eqb}
use Rattle.model.specs.Lists.{if◌then◌otherwise◌, ◌⇒◌, any, has, distinct}
use Rattle.model.specs.Format.{Format}
use Rattle.model.specs.Item.{Item, code}
use Rattle.model.specs.History.{History, item_no, typed, session_voter, session_weight}
use Rattle.model.specs.Counted.{Vote, vote_of, votes_in, same_voter, counted, total_weight, voters}
use Rattle.model.specs.Roll.{Elector, Eligibility, roll_row, roll_limit, electors, rising, voter_numbers, is_bad_roll, GoodRoll, names, on_roll, on_roll_ok, roll_weight, PairAt}
use Rattle.model.specs.Sound.{Passed, Sound}
use Rattle.model.proofs.Tests.{by-test, passes, is_false, and-iff, implies-iff, not_iff, not-not, neither, or_left, or_right, eq→eqb}
use Rattle.model.proofs.Lists.{Every, every_map, every-keep, every-latest}
use Rattle.model.proofs.Numbers.{entry-inside}
use Rattle.model.proofs.Entries.{each-fine, cast-session, orderly}
use Rattle.model.proofs.Votes.{counted-distinct}
use Rattle.model.proofs.Beginnings.{made_at}

two-more : (n : ℕ) → suc (n / 2) ≡ suc (suc n) / 2
two-more n = omega arith

pub length-electors : (roll : List ℕ) → length (electors roll) ≡ length roll / 2
unfolding electors
length-electors (v ∷ w ∷ roll) = ap suc (length-electors roll) ∙ two-more (length roll)
length-electors (v ∷ []) = refl
length-electors [] = refl

-- ---- one pair for a voter

abbrev numbers : List Elector → List ℕ
numbers = map (λ e. e.voter)

names-parts : (v w : ℕ) (e : Elector) → T (names v w e) → (e.voter ≡ v) × (e.weight ≡ w)
names-parts v w e t = let (a, b) = (and-iff (eqb e.voter v) (eqb e.weight w)).0 t in (eqb→eq e.voter v a, eqb→eq e.weight w b)

-- numbers that rise are all more than the first
not-below : (u v w : ℕ) (es : List Elector) → T (rising (u ∷ numbers es)) → v ≤ u → T (any (names v w) es) → ⊥
unfolding rising any
not-below u v w [] t l n = n
not-below u v w (e ∷ es) t l n =
    let (a, b) = (and-iff (ltb u e.voter) (rising (e.voter ∷ numbers es))).0 t in
    let more = ltb→lt u e.voter a in
    by-test (names v w e)
    (λ q. let same = (names-parts v w e (passes q)).0 in omega arith)
    (λ q. not-below e.voter v w es b (omega arith) (rw q at n))

-- and rise behind it
rising-rest : (n : ℕ) (ns : List ℕ) → T (rising (n ∷ ns)) → T (rising ns)
unfolding rising
rising-rest n [] t = tt
rising-rest n (m ∷ ns) t = ((and-iff (ltb n m) (rising (m ∷ ns))).0 t).1

-- a voter has one weight
pub one_right : (v w x : ℕ) (es : List Elector) → T (rising (numbers es)) → T (any (names v w) es) → T (any (names v x) es) → w ≡ x
unfolding any
one_right v w x [] t a b = absurd a
one_right v w x (e ∷ es) t a b =
    by-test (names v w e)
    (λ q. let (voter, weight) = names-parts v w e (passes q) in by-test (names v x e)
    (λ s. sym weight ∙ (names-parts v x e (passes s)).1)
    (λ s. absurd (not-below e.voter v x es t (omega arith) (rw s at b))))
    (λ q. by-test (names v x e)
    (λ s. let voter = (names-parts v x e (passes s)).0 in absurd (not-below e.voter v w es t (omega arith) (rw q at a)))
    (λ s. one_right v w x es (rising-rest e.voter (numbers es) t) (rw q at a) (rw s at b)))

pub good-rising : (roll : List ℕ) → GoodRoll roll → T (rising (voter_numbers roll))
unfolding is_bad_roll
good-rising roll t = (simp (neither, not-not) at t).1

-- ---- the weight of different voters

-- the first pair of a voter and a weight taken away
take_away : ℕ → ℕ → List Elector → List Elector
unfolding if◌then◌otherwise◌
take_away v w [] = []
take_away v w (e ∷ es) = if names v w e then es otherwise e ∷ take_away v w es

away-weight : (v w : ℕ) (es : List Elector) → T (any (names v w) es) → roll_weight es ≡ w + roll_weight (take_away v w es)
unfolding any take_away roll_weight if◌then◌otherwise◌
away-weight v w [] t = absurd t
away-weight v w (e ∷ es) t =
    by-test (names v w e)
    (λ q. let weight = (names-parts v w e (passes q)).1 in rw q (omega arith))
    (λ q. let rest = away-weight v w es (rw q at t) in rw q (omega arith))

away-other : (v w u x : ℕ) (es : List Elector) → u ≢ v → T (any (names u x) es) → T (any (names u x) (take_away v w es))
unfolding any take_away if◌then◌otherwise◌
away-other v w u x [] n t = t
away-other v w u x (e ∷ es) n t =
    by-test (names v w e)
    (λ q. let other : names u x e ≡ false = is_false (names u x e) (λ s. n (sym (names-parts u x e s).0 ∙ (names-parts v w e (passes q)).0)) in
    rw q (rw other at t))
    (λ q. rw q (by-test (names u x e) (λ s. rw s tt) (λ s. rw s (away-other v w u x es n (rw s at t)))))

abbrev Enrolled : List Elector → Vote → Type 0
Enrolled es x = T (any (names x.voter x.weight) es)

still-enrolled : (v w : ℕ) (xs : List Vote) (es : List Elector) → (T (has v (voters xs)) → ⊥) → Every (Enrolled es) xs → Every (Enrolled (take_away v w es)) xs
unfolding any
still-enrolled v w [] es n all = tt
still-enrolled v w (x ∷ xs) es n all =
    let other : x.voter ≢ v = λ q. n (or_left (eqb v x.voter) (has v (voters xs)) (rw q (eqb_refl v))) in
    (away-other v w x.voter x.weight es other all.0, still-enrolled v w xs es (λ t. n (or_right (eqb v x.voter) (has v (voters xs)) t)) all.1)

votes-weight : (xs : List Vote) (es : List Elector) → T (distinct (voters xs)) → Every (Enrolled es) xs → total_weight xs ≤ roll_weight es
unfolding distinct total_weight
votes-weight [] es d all = zero-le
votes-weight (x ∷ xs) es d all =
    let v = x.voter in
    let w = x.weight in
    let (new, rest) = (and-iff (not (has v (voters xs))) (distinct (voters xs))).0 d in
    let left = still-enrolled v w xs es ((not_iff (has v (voters xs))).0 new) all.1 in
    omega (arith, votes-weight xs (take_away v w es) rest left, away-weight v w es all.0)

pub roll-weight : (roll_weight (electors []) ≡ 0)
    × ((v w : ℕ) (roll : List ℕ) → roll_weight (electors (v ∷ w ∷ roll)) ≡ w + roll_weight (electors roll))
unfolding roll_weight electors
roll-weight = (refl, λ v w roll. refl)

-- ---- by the roll's words

abbrev voter_at : List ℕ → ℕ → ℕ
voter_at roll p = get_or roll (2 * p) 0

abbrev weight_at : List ℕ → ℕ → ℕ
weight_at roll p = get_or roll (2 * p + 1) 0

-- with a pair put in front, every pair is one further
pair-later : (p n : ℕ) → 2 * p + 1 < n → 2 * suc p + 1 < suc (suc n)
pair-later p n l = omega arith

pair-before : (p n : ℕ) → 2 * suc p + 1 < suc (suc n) → 2 * p + 1 < n
pair-before p n l = omega arith

no-pair : (p : ℕ) → 2 * p + 1 < 1 → ⊥
no-pair p l = omega arith

voter-next : (a b : ℕ) (roll : List ℕ) (p : ℕ) → voter_at (a ∷ b ∷ roll) (suc p) ≡ voter_at roll p
voter-next a b roll p = let place : 2 * suc p ≡ suc (suc (2 * p)) = omega arith in ap (λ (n : ℕ). get_or (a ∷ b ∷ roll) n 0) place

weight-next : (a b : ℕ) (roll : List ℕ) (p : ℕ) → weight_at (a ∷ b ∷ roll) (suc p) ≡ weight_at roll p
weight-next a b roll p = let place : 2 * suc p + 1 ≡ suc (suc (2 * p + 1)) = omega arith in ap (λ (n : ℕ). get_or (a ∷ b ∷ roll) n 0) place

-- who is on the roll has a pair there
pair-named : (roll : List ℕ) (v w : ℕ) → T (on_roll roll v w) → (p : ℕ) × PairAt roll v w p
unfolding on_roll electors any
pair-named [] v w t = absurd t
pair-named (a ∷ []) v w t = absurd t
pair-named (a ∷ b ∷ roll) v w t =
    by-test (names v w (record { voter = a; weight = b }))
    (λ q. let (x, y) = names-parts v w (record { voter = a; weight = b }) (passes q) in (0, (suc-le-suc (zero-lt-suc (length roll)), x, y)))
    (λ q. let (p, (l, x, y)) = pair-named roll v w (rw q at t) in (suc p, (pair-later p (length roll) l, voter-next a b roll p ∙ x, weight-next a b roll p ∙ y)))

-- and only they do
named-pair : (roll : List ℕ) (v w p : ℕ) → PairAt roll v w p → T (on_roll roll v w)
unfolding on_roll electors any
named-pair [] v w p (l, x, y) = absurd (not-suc-le-zero l)
named-pair (a ∷ []) v w p (l, x, y) = absurd (no-pair p l)
named-pair (a ∷ b ∷ roll) v w zero (l, x, y) =
    or_left (names v w (record { voter = a; weight = b })) _ ((and-iff (eqb a v) (eqb b w)).1 (rw x (eqb_refl v), rw y (eqb_refl w)))
named-pair (a ∷ b ∷ roll) v w (suc p) (l, x, y) =
    or_right (names v w (record { voter = a; weight = b })) _
    (named-pair roll v w p (pair-before p (length roll) l, sym (voter-next a b roll p) ∙ x, sym (weight-next a b roll p) ∙ y))

pub on-roll : (roll : List ℕ) (v w : ℕ) → T (on_roll roll v w) ↔ ((p : ℕ) × PairAt roll v w p)
on-roll roll v w = (pair-named roll v w, λ (p, here). named-pair roll v w p here)

-- voter numbers that rise: each is less than every later one
more-than : (u : ℕ) (roll : List ℕ) (k : ℕ) → T (rising (u ∷ voter_numbers roll)) → 2 * k + 1 < length roll → u < voter_at roll k
unfolding rising electors
more-than u [] k t l = absurd (not-suc-le-zero l)
more-than u (a ∷ []) k t l = absurd (no-pair k l)
more-than u (a ∷ b ∷ roll) zero t l = ltb→lt u a ((and-iff (ltb u a) (rising (a ∷ voter_numbers roll))).0 t).0
more-than u (a ∷ b ∷ roll) (suc k) t l =
    let (first, rest) = (and-iff (ltb u a) (rising (a ∷ voter_numbers roll))).0 t in
    lt_trans (ltb→lt u a first) (subst (a <◌) (sym (voter-next a b roll k)) (more-than a roll k rest (pair-before k (length roll) l)))

abbrev Rises : List ℕ → Type 0
Rises roll = (j k : ℕ) → j < k → 2 * k + 1 < length roll → voter_at roll j < voter_at roll k

pub rising-words : (roll : List ℕ) → T (rising (voter_numbers roll)) → Rises roll
unfolding electors
rising-words [] t j k m l = absurd (not-suc-le-zero l)
rising-words (a ∷ []) t j k m l = absurd (no-pair k l)
rising-words (a ∷ b ∷ roll) t j zero m l = absurd (not-suc-le-zero m)
rising-words (a ∷ b ∷ roll) t zero (suc k) m l = subst (a <◌) (sym (voter-next a b roll k)) (more-than a roll k t (pair-before k (length roll) l))
rising-words (a ∷ b ∷ roll) t (suc j) (suc k) m l =
    subst₂ ◌<◌ (sym (voter-next a b roll j)) (sym (voter-next a b roll k))
    (rising-words roll (rising-rest a (voter_numbers roll) t) j k (le_of_suc-le-suc m) (pair-before k (length roll) l))

pub words-rising : (roll : List ℕ) → Rises roll → T (rising (voter_numbers roll))
unfolding rising electors
words-rising [] all = tt
words-rising (a ∷ []) all = tt
words-rising (a ∷ b ∷ []) all = tt
words-rising (a ∷ b ∷ c ∷ []) all = tt
words-rising (a ∷ b ∷ c ∷ d ∷ roll) all =
    (and-iff (ltb a c) (rising (c ∷ voter_numbers roll))).1 (
      lt→ltb a c (all 0 1 (zero-lt-suc 0) (pair-later 0 (length (c ∷ d ∷ roll)) (suc-le-suc (zero-lt-suc (length roll))))),
      words-rising (c ∷ d ∷ roll) (λ j k m l.
          subst₂ ◌<◌ (voter-next a b (c ∷ d ∷ roll) j) (voter-next a b (c ∷ d ∷ roll) k) (all (suc j) (suc k) (suc-le-suc m) (pair-later k (length (c ∷ d ∷ roll)) l))),
    )

-- at most 2,048 pairs are at most 4,096 words
even-few : (n m : ℕ) → n % 2 ≡ 0 → m ≤ roll_limit → m ≡ n / 2 → n ≤ 4096
even-few n m e l q = omega arith

few-even : (n m : ℕ) → n ≤ 4096 → m ≡ n / 2 → m ≤ roll_limit
few-even n m l q = omega arith

pub good-roll : (roll : List ℕ) → GoodRoll roll ↔ ((length roll % 2 ≡ 0) × (length roll ≤ 4096) × Rises roll)
unfolding is_bad_roll
good-roll roll =
    let odd = not (eqb (length roll % roll_row) 0) in
    let many = ltb roll_limit (length (electors roll)) in
    let sorted = rising (voter_numbers roll) in (
      λ t. let (u, r) = (neither (odd || many) (not sorted)).0 t in let (e, m) = (neither odd many).0 u in
          let few = nltb→le roll_limit (length (electors roll)) m in
          let even : length roll % 2 ≡ 0 = eqb→eq (length roll % roll_row) 0 ((not-not (eqb (length roll % roll_row) 0)).0 e) in
          (even, even-few (length roll) (length (electors roll)) even few (length-electors roll), rising-words roll ((not-not sorted).0 r)),
      λ (even, few, rises).
          (neither (odd || many) (not sorted)).1 (
            (neither odd many).1 (
              (not-not (eqb (length roll % roll_row) 0)).1 (eq→eqb (length roll % roll_row) 0 even),
              le→nltb roll_limit (length (electors roll)) (few-even (length roll) (length (electors roll)) few (length-electors roll)),
            ),
            (not-not sorted).1 (words-rising roll rises),
          ),
    )

-- check 21
module _ (roll : List ℕ) (i : Item) where
  pub session-roll : code i ≡ 16 → T (on_roll_ok (on_roll roll) i) ↔ ((p : ℕ) × PairAt roll (session_voter i) (session_weight i) p)
  unfolding on_roll_ok ◌⇒◌
  session-roll c = rw c (on-roll roll (session_voter i) (session_weight i))

  pub other-roll : code i ≢ 16 → T (on_roll_ok (on_roll roll) i)
  unfolding on_roll_ok ◌⇒◌
  other-roll n = rw (ne_eqb (code i) 16 n) tt

-- ---- of what was passed

module _ {f : Format} {on : Eligibility} {ws vs : List ℕ} {h : History} (b : Passed f on ws vs h) where
  pub session-eligible : (k : ℕ) → code (item_no h k) ≡ 16 → T (on (session_voter (item_no h k)) (session_weight (item_no h k)))
  unfolding on_roll_ok
  session-eligible zero c = absurd (not-suc-le-zero (entry-inside h zero (rw c (omega arith))).0)
  session-eligible (suc k) c =
      let i = item_no h (suc k) in
      (implies-iff (eqb (code i) 16) (on (session_voter i) (session_weight i))).0
      (made_at b k (entry-inside h (suc k) (rw c (omega arith))).1).meets.enrolled (rw c tt)

module _ {f : Format} {ws vs roll : List ℕ} {h : History} (s : Sound f ws vs roll h) where
  pub session-on-roll : (k : ℕ) → code (item_no h k) ≡ 16 → (p : ℕ) × PairAt roll (session_voter (item_no h k)) (session_weight (item_no h k)) p
  session-on-roll k c = (on-roll roll _ _).0 (session-eligible s.passed k c)

  pub one-weight : (j k : ℕ) → code (item_no h j) ≡ 16 → code (item_no h k) ≡ 16 → session_voter (item_no h j) ≡ session_voter (item_no h k)
      → session_weight (item_no h j) ≡ session_weight (item_no h k)
  unfolding on_roll
  one-weight j k cj ck same =
      one_right (session_voter (item_no h k)) _ _ (electors roll) (good-rising roll s.good_roll) (rw same at (session-eligible s.passed j cj))
      (session-eligible s.passed k ck)

  pub counted-enrolled : Every (Enrolled (electors roll)) (counted h)
  unfolding counted vote_of on_roll
  counted-enrolled =
      every-latest same_voter (Enrolled (electors roll)) (votes_in h h)
      (every-keep (typed 20) (vote_of h) (Enrolled (electors roll)) h
      (each-fine (orderly s.passed) _
      (λ e a t. session-eligible s.passed e.session (eqb→eq (code (item_no h e.session)) 16 (a.session-typed (cast-session a t))))))

  pub counted-on-roll : Every (λ x. (p : ℕ) × PairAt roll x.voter x.weight p) (counted h)
  unfolding on_roll
  counted-on-roll = every_map _ _ (λ x t. (on-roll roll x.voter x.weight).0 t) (counted h) counted-enrolled

  pub weight-bound : total_weight (counted h) ≤ roll_weight (electors roll)
  weight-bound = votes-weight (counted h) (electors roll) (counted-distinct h) counted-enrolled
