-- What stands only once: of two such items the later one would not pass. Paper: "Only one". Assumes nothing.
use Prim.Native.Nat.{ℕ, zero, suc, ◌≤◌, ◌<◌}
use native.Mathlib.Nat.{le_of_suc-le-suc, not-suc-le-zero}
use native.Mathlib.Omega.{arith}
use native.Mathlib.Decide.{dec_le}
use mathlib.Core.Path.{◌≡◌, sym}
use mathlib.Core.Logic.{by_cases}
use mathlib.Core.Bool.{Bool, ◌||◌}
use mathlib.Core.List.{List}
use lib.ListN.{length, take}
use lib.Dec.{T, eqb, eqb→eq}
use Rattle.model.specs.Lists.{any}
use Rattle.model.specs.Words.{between}
use Rattle.model.specs.Codes.{genesis_type, threshold_type}
use Rattle.model.specs.Format.{Format}
use Rattle.model.specs.Item.{code}
use Rattle.model.specs.History.{History, Entry, entry, item_no, typed, parent_number, child_of}
use Rattle.model.specs.Only.{on_board_ok, under_parent_ok, under_ballot_ok}
use Rattle.model.specs.Roll.{Eligibility}
use Rattle.model.specs.Sound.{Meets, Passed}
use Rattle.model.proofs.Tests.{eq→eqb, and-iff, implies-iff, not_iff, facts}
use Rattle.model.proofs.Rules.{only-rules}
use Rattle.model.proofs.Numbers.{any-before, entry-inside}
use Rattle.model.proofs.Beginnings.{made_at}
use Rattle.model.proofs.Ancestry.{parent_of}

module _ {f : Format} {on : Eligibility} {ws vs : List ℕ} {h : History} (p : Passed f on ws vs h) where
  -- entries that pass `kind` have none `beside` them, if none was there before
  module _ (kind : Entry → Bool) (typed-kind : (e : Entry) → T (kind e) → 1 ≤ code e.item) (beside : Entry → Entry → Bool)
      (alone : (g : History) (v : List ℕ) (e : Entry) → Meets f on g v e.item → e.parent ≡ parent_number g e.item → T (kind e)
      → T (any (beside e) g) → ⊥) where
    not_earlier : (j k : ℕ) → 1 ≤ j → k ≤ length h → j < k → T (kind (entry h k)) → T (beside (entry h k) (entry h j)) → ⊥
    unfolding entry
    not_earlier zero k one all l s t = not-suc-le-zero one
    not_earlier (suc j) zero one all l s t = not-suc-le-zero l
    not_earlier (suc j) (suc k) one all l s t =
        let c = made_at p k all in
        alone (take k h) c.verdict (entry h (suc k)) c.meets (parent_of c) s
        (any-before (beside (entry h (suc k))) h j k (omega arith) (le_of_suc-le-suc l) t)

    once : (j k : ℕ) → T (kind (entry h j)) → T (kind (entry h k)) → T (beside (entry h j) (entry h k)) → T (beside (entry h k) (entry h j)) → j ≡ k
    once j k a b s t =
        let (one, all) = entry-inside h j (typed-kind (entry h j) a) in
        let (one', all') = entry-inside h k (typed-kind (entry h k) b) in
        by_cases (dec_le j k)
        (λ l. by_cases (dec_le k j) (λ m. omega arith) (λ n. absurd (not_earlier j k one all' (omega arith) b t)))
        (λ n. absurd (not_earlier k j one' all (omega arith) a s))

  -- types 1 and 4: one per board
  pub one-on-board : (c j k : ℕ) → T (eqb c genesis_type || eqb c threshold_type) → code (item_no h j) ≡ c → code (item_no h k) ≡ c → j ≡ k
  unfolding on_board_ok
  one-on-board zero j k t a b = absurd t
  one-on-board (suc c) j k t a b =
      once (typed (suc c)) (λ e s. omega (arith, eqb→eq (code e.item) (suc c) s)) (λ e. typed (suc c))
      (λ g v e m q s u. let same = eqb→eq (code e.item) (suc c) s in
      simp (implies-iff, not_iff) at (only-rules m.only).on_board (rw same t) (rw same u))
      j k (eq→eqb _ _ a) (eq→eqb _ _ b) (eq→eqb _ _ b) (eq→eqb _ _ a)

  -- types 18, 19, 33, 34 and 48 to 51: one under a parent
  pub one-under-parent : (c j k : ℕ) → T (between 18 19 c || between 33 34 c || between 48 51 c) → code (item_no h j) ≡ c → code (item_no h k) ≡ c
      → (entry h j).parent ≡ (entry h k).parent → j ≡ k
  unfolding under_parent_ok
  one-under-parent zero j k t a b same = absurd t
  one-under-parent (suc c) j k t a b same =
      once (typed (suc c)) (λ e s. omega (arith, eqb→eq (code e.item) (suc c) s)) (λ e. child_of e.parent (λ x. eqb x (suc c)))
      (λ g v e m q s u. let type = eqb→eq (code e.item) (suc c) s in
      simp (implies-iff, not_iff) at (only-rules m.only).under_parent (rw type t) (rw type (rw q at u)))
      j k (eq→eqb _ _ a) (eq→eqb _ _ b) (simp facts (b, sym same)) (simp facts (a, same))

  -- types 20 and 21: one of either under a ballot
  pub one-under-ballot : (j k : ℕ) → T (between 20 21 (code (item_no h j))) → T (between 20 21 (code (item_no h k)))
      → (entry h j).parent ≡ (entry h k).parent → j ≡ k
  unfolding under_ballot_ok
  one-under-ballot j k s t same =
      once (λ e. between 20 21 (code e.item)) (λ e s. let r = simp facts at s in omega arith) (λ e. child_of e.parent (between 20 21))
      (λ g v e m q s u. simp (implies-iff, not_iff) at (only-rules m.only).under_ballot s (rw q at u))
      j k s t (under (entry h k) t (sym same)) (under (entry h j) s same)
    where
      under : {n : ℕ} (e : Entry) → T (between 20 21 (code e.item)) → e.parent ≡ n → T (child_of n (between 20 21) e)
      under {n} e s q = (and-iff (between 20 21 (code e.item)) (eqb e.parent n)).1 (s, eq→eqb _ _ q)
