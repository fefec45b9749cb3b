-- What closed a ballot: of a passed history each cast and spoil is what closed its ballot, and one more item closes at most one ballot.
-- Paper: request (vii). Assumes nothing.
use Prim.Native.Nat.{ℕ, zero, suc, ◌≤◌, zero-le}
use native.Mathlib.Nat.{not-suc-le-zero}
use native.Mathlib.Omega.{arith}
use mathlib.Core.Path.{◌≡◌, refl, sym, ap, ◌∙◌}
use mathlib.Core.Logic.{◌≢◌}
use mathlib.Core.Bool.{Bool, true, false, not}
use mathlib.Core.List.{List, [], ◌∷◌, ◌++◌, append-nil, append_assoc}
use lib.ListN.{length, length-append}
use lib.Dec.{T, eqb, eqb→eq, eqb_refl}
use borrow.Author.Tests.{eqb-true, eqb-false, eq-eqb, ne_eqb, not-false}
use Rattle.model.specs.Lists.{if◌then◌otherwise◌, any}
use Rattle.model.specs.Words.{code_of, between}
use Rattle.model.specs.Codes.{ballot_type}
use Rattle.model.specs.Format.{Format}
use Rattle.model.specs.Item.{Item, code}
use Rattle.model.specs.Types.{table}
use Rattle.model.specs.History.{History, Entry, entry, item_no, typed, first, parent_number, entry_of, child_of, cast_or_spoil, closer}
use Rattle.model.specs.Only.{under_ballot_ok}
use Rattle.model.specs.Roll.{Eligibility}
use Rattle.model.specs.Sound.{Meets, Passed}
use Rattle.model.proofs.Tests.{by-test, is_true, is_false, and-iff, implies-iff, not_iff}
use Rattle.model.proofs.Rules.{only-rules}
use Rattle.model.proofs.Numbers.{any-before, entry-append, first_found, first-bound, first-within}
use Rattle.model.proofs.State.{first-snoc, any-first}
use Rattle.model.proofs.Table.{parent_type, parent-type-law}
use Rattle.model.proofs.Entries.{fine-at, orderly, parent-bound, parent-type}
use Rattle.model.proofs.Once.{one-under-ballot}

-- a cast or spoil under item k
abbrev closes : ℕ → Entry → Bool
closes k = child_of k cast_or_spoil

closes-parts : (k : ℕ) (e : Entry) → T (closes k e) → T (cast_or_spoil (code e.item)) × (e.parent ≡ k)
closes-parts k e t = let (a, p) = (and-iff (cast_or_spoil (code e.item)) (eqb e.parent k)).0 t in (a, eqb→eq e.parent k p)

closes-own : (e : Entry) → T (cast_or_spoil (code e.item)) → T (closes e.parent e)
closes-own e t = (and-iff (cast_or_spoil (code e.item)) (eqb e.parent e.parent)).1 (t, eqb_refl e.parent)

-- ---- of any history

module _ (h : History) (k : ℕ) where
  -- "4,294,967,295 for other items"
  pub closer-other : code (item_no h k) ≢ ballot_type → closer h k ≡ 0
  unfolding closer if◌then◌otherwise◌
  closer-other n = rw (ne_eqb (code (item_no h k)) ballot_type n)

  -- what closed an item is a cast or spoil under it, and the item is a ballot
  pub closer-closes : closer h k ≢ 0
      → (code (item_no h k) ≡ ballot_type) × T (cast_or_spoil (code (item_no h (closer h k)))) × ((entry h (closer h k)).parent ≡ k)
  unfolding closer if◌then◌otherwise◌
  closer-closes n =
      by-test (typed ballot_type (entry h k))
      (λ q. let c = first (closes k) h in
      let some : c ≢ 0 = rw q at n in
      let (kind, up) = closes-parts k (entry h c) (first_found (closes k) h (omega arith)) in
      rw q (eqb-true (code (item_no h k)) ballot_type q, kind, up))
      (λ q. absurd (n (rw q)))

  pub closer-bound : closer h k ≤ length h
  unfolding closer if◌then◌otherwise◌
  closer-bound = by-test (typed ballot_type (entry h k)) (λ q. rw q (first-bound (closes k) h)) (λ q. rw q zero-le)

-- nothing stands under no item
pub closer-none : (h : History) → closer h 0 ≡ 0
unfolding closer entry code_of if◌then◌otherwise◌
closer-none h = refl

-- one item closes one ballot
pub closers-differ : (h : History) (j k : ℕ) → closer h j ≢ 0 → closer h j ≡ closer h k → j ≡ k
closers-differ h j k n e =
    sym (closer-closes h j n).2 ∙ ap (λ (c : ℕ). (entry h c).parent) e ∙ (closer-closes h k (λ q. n (e ∙ q))).2

-- ---- of a passed history

module _ {f : Format} {on : Eligibility} {ws vs : List ℕ} {h : History} (b : Passed f on ws vs h) where
  -- a cast or spoil stands under a ballot
  under-ballot : (k c : ℕ) → 1 ≤ c → c ≤ length h → T (closes k (entry h c)) → T (typed ballot_type (entry h k))
  unfolding parent_type table
  under-ballot k c o l t =
      let (kind, up) = closes-parts k (entry h c) t in
      rw up at ((fine-at (orderly b) c o l).parent-typed cast_or_spoil ballot_type tt kind)

  -- and is what closed it
  pub closer-of : (c : ℕ) → 1 ≤ c → c ≤ length h → T (between 20 21 (code (item_no h c))) → closer h (entry h c).parent ≡ c
  unfolding closer entry if◌then◌otherwise◌
  closer-of zero o l t = absurd (not-suc-le-zero o)
  closer-of (suc c) o l t =
      let k = (entry h (suc c)).parent in
      let here = closes-own (entry h (suc c)) t in
      let some = (first-within (closes k) h (suc c) (any-before (closes k) h c (suc c) l (omega arith) here)).0 in
      let (kind, up) = closes-parts k (entry h (first (closes k) h)) (first_found (closes k) h some) in
      rw (is_true (typed ballot_type (entry h k)) (under-ballot k (suc c) o l here)) (one-under-ballot b (first (closes k) h) (suc c) kind t up)

  -- "one of either under a ballot": whether there is one
  pub any-closer : (k : ℕ) → any (closes k) h ≡ not (eqb (closer h k) 0)
  unfolding closer if◌then◌otherwise◌
  any-closer k =
      let c = first (closes k) h in
      by-test (typed ballot_type (entry h k))
      (λ q. rw q (any-first (closes k) h))
      (λ q. rw (q, any-first (closes k) h)
      (by-test (eqb c 0) (λ z. rw z)
      (λ z. let other = eqb-false c 0 z in
      let some : 1 ≤ c = omega arith in
      absurd (rw q at (under-ballot k c some (first-bound (closes k) h) (first_found (closes k) h some))))))

-- ---- one more entry

module _ (h : History) (e : Entry) where
  abbrev longer : History
  longer = h ++ (e ∷ [])

  -- an item that it does not close
  closer-kept : (k : ℕ) → k ≤ length h → closes k e ≡ false → closer longer k ≡ closer h k
  unfolding closer if◌then◌otherwise◌
  closer-kept k l q =
      rw (entry-append h (e ∷ []) k l, first-snoc (closes k) h e, q)
      (by-test (eqb (first (closes k) h) 0) (λ s. rw (eqb-true (first (closes k) h) 0 s)) (λ s. rw s))

  -- an item that something closed
  closer-used : (k : ℕ) → k ≤ length h → closer h k ≢ 0 → closer longer k ≡ closer h k
  unfolding closer if◌then◌otherwise◌
  closer-used k l n =
      let ballot = eq-eqb (code (item_no h k)) ballot_type (closer-closes h k n).0 in
      let some : first (closes k) h ≢ 0 = rw ballot at n in
      rw (entry-append h (e ∷ []) k l, first-snoc (closes k) h e, ne_eqb (first (closes k) h) 0 some)

  -- an open ballot that it closes
  closer-set : (k : ℕ) → k ≤ length h → T (typed ballot_type (entry h k)) → closer h k ≡ 0 → closes k e ≡ true → closer longer k ≡ suc (length h)
  unfolding closer if◌then◌otherwise◌
  closer-set k l t n q =
      let ballot = is_true (typed ballot_type (entry h k)) t in
      let none : first (closes k) h ≡ 0 = rw ballot at n in
      rw (entry-append h (e ∷ []) k l, first-snoc (closes k) h e, q, ballot, none)

-- what closed an item stays
pub closer-stays : (h t : History) (k : ℕ) → k ≤ length h → closer h k ≢ 0 → closer (h ++ t) k ≡ closer h k
closer-stays h [] k l n = rw append-nil
closer-stays h (e ∷ t) k l n =
    let one = closer-used h e k l n in
    ap (λ (x : History). closer x k) (sym (append_assoc h (e ∷ []) t))
    ∙ closer-stays (h ++ (e ∷ [])) t k (simp length-append (omega arith)) (λ q. n (sym one ∙ q))
    ∙ one

-- ---- one more item, which passes

module _ {f : Format} {on : Eligibility} {ws vs : List ℕ} {h : History} {v : List ℕ} {i : Item} (b : Passed f on ws vs h) (m : Meets f on h v i) (place : ℕ) where
  abbrev new : Entry
  new = entry_of h place i

  closing-up : T (cast_or_spoil (code i)) → parent_number h i ≤ length h
  closing-up t = parent-bound h i (ne_eqb (code i) 1 (λ q. absurd (rw q at t)))

  -- nothing closed it
  pub closer-new : closer (longer h new) (suc (length h)) ≡ 0
  unfolding closer if◌then◌otherwise◌ entry_of
  closer-new =
      let n = suc (length h) in
      let p = first (closes n) h in
      let none : eqb p 0 ≡ true =
      by-test (eqb p 0) (λ s. s)
      (λ s. let other = eqb-false p 0 s in let some : 1 ≤ p = omega arith in
      let parent = (closes-parts n (entry h p) (first_found (closes n) h some)).1 in
      absurd (omega (arith, (fine-at (orderly b) p some (first-bound (closes n) h)).parent_in))) in
      let no : closes n new ≡ false = is_false (closes n new) (λ t. let (kind, own) = closes-parts n new t in omega (arith, closing-up kind)) in
      rw (first-snoc (closes n) h new, none, no) (by-test (typed ballot_type (entry (longer h new) n)) (λ q. rw q) (λ q. rw q))

  -- the parent of a cast or spoil is an open ballot
  pub closes-open : T (cast_or_spoil (code i)) → let k = parent_number h i in T (typed ballot_type (entry h k)) × (closer h k ≡ 0)
  unfolding under_ballot_ok parent_type table
  closes-open t =
      let k = parent_number h i in
      let ballot = parent-type m (λ x. eqb x ballot_type) (parent-type-law cast_or_spoil ballot_type tt m.listed t) in
      let alone : any (closes k) h ≡ false = is_false (any (closes k) h) (simp (implies-iff, not_iff) at (only-rules m.only).under_ballot t) in
      (ballot, eqb-true (closer h k) 0 (not-false (eqb (closer h k) 0) (sym (any-closer b k) ∙ alone)))

  -- which it closes
  pub closer-closed : T (cast_or_spoil (code i)) → closer (longer h new) (parent_number h i) ≡ suc (length h)
  unfolding entry_of
  closer-closed t =
      let (ballot, open-now) = closes-open t in
      closer-set h new (parent_number h i) (closing-up t) ballot open-now (is_true (closes (parent_number h i) new) (closes-own new t))

  -- and no other
  pub closer-else : (k : ℕ) → k ≤ length h → (T (cast_or_spoil (code i)) → parent_number h i ≢ k) → closer (longer h new) k ≡ closer h k
  unfolding entry_of
  closer-else k l n = closer-kept h new k l (is_false (closes k new) (λ t. let (kind, up) = closes-parts k new t in n kind up))
