-- A search by a chain: from the last item of a bucket to the one behind it, and so on. Items of other buckets do not pass the test of the
-- search, so they change neither the last that passes nor the first. Assumes nothing.
use Prim.Native.Nat.{ℕ, zero, suc, ◌+◌, ◌-◌, ◌≤◌, ◌<◌}
use native.Mathlib.Omega.{arith}
use native.Mathlib.Nat.{le_refl, not-suc-le-zero}
use mathlib.Core.Path.{◌≡◌, refl, sym, ap, ◌∙◌}
use mathlib.Core.Bool.{Bool, true, false}
use mathlib.Core.List.{List}
use lib.ListN.{get_or}
use lib.Dec.{eqb}
use borrow.Author.Tests.{eq-eqb, ne_eqb, eqb-true, eqb-false}
use Rattle.model.specs.Lists.{if◌then◌otherwise◌}
use Rattle.model.specs.Codes.{session_type}
use Rattle.model.specs.Item.{code}
use Rattle.model.specs.History.{History, Entry, entry, first, last, entry_of}
use Rattle.model.specs.Phase.{session_of}
use Rattle.model.specs.Audit.{item_limit}
use Rattle.model.proofs.Tests.{by-test, passes, facts, same-iff}
use Rattle.chains.specs.Chain.{buckets, chain, last_in}
use Rattle.chains.proofs.Laws.{last_in-here, last_in-past, last_in-le, last_in-self, last_in-own, chain-last, chain-behind}
use Rattle.index.specs.Kept.{before, item_after}
use Rattle.index.proofs.Items.{entry-made}
use Rattle.lookup.specs.Search.{addressed}
use Rattle.lookup.specs.Buckets.{of_address, of_voter, by_address, by_voter}
use Rattle.lookup.proofs.Steps.{up_to, to-all, last_step, first_step, first_ends}

-- ---- where the walk goes

-- item r, the last in bucket b of the first m, and so the last of those up to itself
pub record Reached (bucket : ℕ → ℕ) (b m r : ℕ) : Type 0 where
  pub is : r ≡ last_in bucket b m
  pub most : r ≤ m
  pub self : last_in bucket b r ≡ r

reached : {bucket : ℕ → ℕ} {b m r : ℕ} → r ≡ last_in bucket b m → Reached bucket b m r
reached {bucket} {b} {m} e = record { is = e; most = rw e (last_in-le bucket b m); self = rw e (last_in-self bucket b m) }

module _ {bucket : ℕ → ℕ} (small : (k : ℕ) → bucket k < buckets) {table : List ℕ} {n : ℕ} (few : n ≤ item_limit) (is : table ≡ chain bucket n) where
  -- it begins at the last item of the bucket
  pub walk-starts : {b i : ℕ} → b < buckets → i ≡ b → {r : ℕ} → r ≡ get_or table i 0 → Reached bucket b n r
  walk-starts {b} l same e = reached (rw (is, same) at e ∙ chain-last bucket small b n l few)

  -- from item k it goes to the one behind it
  pub walk-goes : {b : ℕ} (k : ℕ) → 1 ≤ k → k ≤ n → last_in bucket b k ≡ k → {r : ℕ} → r ≡ get_or table (buckets + k) 0 → Reached bucket b (k - 1) r
  walk-goes {b} k s l self e =
      reached (rw is at e ∙ chain-behind bucket small k n s l few ∙ ap (λ (c : ℕ). last_in bucket c (k - 1)) (last_in-own bucket b k s self))

-- ---- what it passes over

-- the one found, or else the other
infixl 30 ◌or_else◌
abbrev pub ◌or_else◌ : ℕ → ℕ → ℕ
◌or_else◌ a b = if eqb a 0 then b otherwise a

module _ (board : List ℕ) (n : ℕ) (p : Entry → Bool) where
  abbrev h : History
  h = before board n

  abbrev to : ℕ → History
  to = up_to board n

  -- ---- one item, by the answer of its test

  module _ (k : ℕ) (s : 1 ≤ k) (l : k ≤ n) where
    pub last-stops : {r : Bool} → r ≡ p (entry h k) → r ≡ true → last p (to k) ≡ k
    unfolding if◌then◌otherwise◌
    last-stops told q = last_step board n p k s l ∙ rw (← told, q)

    last-fails : p (entry h k) ≡ false → last p (to k) ≡ last p (to (k - 1))
    unfolding if◌then◌otherwise◌
    last-fails q = last_step board n p k s l ∙ rw q

    first-fails : p (entry h k) ≡ false → first p (to k) ≡ first p (to (k - 1))
    unfolding if◌then◌otherwise◌
    first-fails q =
        let less = first p (to (k - 1)) in
        first_step board n p k s l ∙ by-test (eqb less 0) (λ none. rw (none, q) (sym (eqb-true less 0 none))) (λ some. rw some)

    -- item k is the one found, if it passes
    module _ {r : Bool} (told : r ≡ p (entry h k)) (found : ℕ) {next : ℕ} where
      pub found-new : r ≡ true → next ≡ k → next ≡ (if p (entry h k) then k otherwise found)
      unfolding if◌then◌otherwise◌
      found-new q e = e ∙ rw (← told, q)

      pub found-old : r ≡ false → next ≡ found → next ≡ (if p (entry h k) then k otherwise found)
      unfolding if◌then◌otherwise◌
      found-old q e = e ∙ rw (← told, q)

    -- one found before item k stands, and else item k may be it
    first-turn : (found : ℕ) → first p (to k) or_else found ≡ first p (to (k - 1)) or_else (if p (entry h k) then k otherwise found)
    unfolding if◌then◌otherwise◌
    first-turn found =
        let less = first p (to (k - 1)) in
        let some : eqb k 0 ≡ false = ne_eqb k 0 (λ q. omega arith) in
        rw (first_step board n p k s l)
        (by-test (eqb less 0)
        (λ none. rw none (by-test (p (entry h k)) (λ q. rw (q, some)) (λ q. rw q)))
        (λ stays. rw (stays, stays)))

  -- ---- the items of a bucket

  module _ (bucket : ℕ → ℕ) (b : ℕ) (only : (k : ℕ) → 1 ≤ k → k ≤ n → p (entry h k) ≡ true → bucket k ≡ b) where
    -- what an item that fails does not change, items of other buckets do not
    skips : (f : ℕ → ℕ) → ((k : ℕ) → 1 ≤ k → k ≤ n → p (entry h k) ≡ false → f k ≡ f (k - 1)) → (k : ℕ) → k ≤ n → f k ≡ f (last_in bucket b k)
    unfolding last_in
    skips f goes zero l = refl
    skips f goes (suc k) l =
        by-test (eqb (bucket (suc k)) b)
        (λ q. ap f (sym (last_in-here bucket b k q)))
        (λ q.
        let here : suc k - 1 ≡ k = omega arith in
        let fails = by-test (p (entry h (suc k))) (λ t. absurd (eqb-false (bucket (suc k)) b q (only (suc k) (omega arith) l t))) (λ t. t) in
        goes (suc k) (omega arith) l fails ∙ ap f here ∙ skips f goes k (omega arith) ∙ ap f (sym (last_in-past bucket b k q)))

    module _ {r : ℕ} (at : Reached bucket b n r) where
      pub last-starts : last p h ≡ last p (to r)
      last-starts =
          ap (last p) (sym (to-all board n))
          ∙ skips (λ k. last p (to k)) last-fails n (le_refl n)
          ∙ ap (λ (k : ℕ). last p (to k)) (sym at.is)

      pub first-starts : first p h ≡ first p (to r) or_else 0
      unfolding if◌then◌otherwise◌
      first-starts =
          ap (first p) (sym (to-all board n))
          ∙ skips (λ k. first p (to k)) first-fails n (le_refl n)
          ∙ ap (λ (k : ℕ). first p (to k)) (sym at.is)
          ∙ by-test (eqb (first p (to r)) 0) (λ q. rw q (eqb-true (first p (to r)) 0 q)) (λ q. rw q)

    module _ (k : ℕ) (s : 1 ≤ k) (l : k ≤ n) {r : ℕ} (at : Reached bucket b (k - 1) r) where
      pub last_goes : {t : Bool} → t ≡ p (entry h k) → t ≡ false → last p (to k) ≡ last p (to r)
      last_goes told q =
          last-fails k s l (sym told ∙ q)
          ∙ skips (λ k. last p (to k)) last-fails (k - 1) (omega arith)
          ∙ ap (λ (k : ℕ). last p (to k)) (sym at.is)

      pub first_goes : (found : ℕ) {next : ℕ} → next ≡ (if p (entry h k) then k otherwise found) → first p (to k) or_else found ≡ first p (to r) or_else next
      first_goes found e =
          first-turn k s l found
          ∙ ap (λ (a : ℕ). a or_else (if p (entry h k) then k otherwise found)) (skips (λ k. first p (to k)) first-fails (k - 1) (omega arith))
          ∙ rw (e, ← at.is)

  pub first_done : (k found : ℕ) → k ≡ 0 → first p (to k) or_else found ≡ found
  unfolding if◌then◌otherwise◌
  first_done k found none = rw (first_ends board n p k none)

-- ---- an item that passes is in the bucket

pub addressed-only : (board address : List ℕ) (n : ℕ) (m : Bool) (k : ℕ) → 1 ≤ k → k ≤ n
    → addressed m address (entry (before board n) k) ≡ true → by_address board k ≡ of_address address
unfolding by_address entry_of
addressed-only board address n m zero s l q = absurd (not-suc-le-zero s)
addressed-only board address n m (suc k) s l q =
    let same = (simp facts at (passes (rw (entry-made board n k l) at q))).1 in
    ap of_address ((same-iff (item_after board k).address address).0 same)

pub session-only : (board : List ℕ) (n voter k : ℕ) → 1 ≤ k → k ≤ n → session_of voter (entry (before board n) k) ≡ true → by_voter board k ≡ of_voter voter
unfolding by_voter entry_of if◌then◌otherwise◌
session-only board n voter zero s l q = absurd (not-suc-le-zero s)
session-only board n voter (suc k) s l q =
    let (kind, same) = simp facts at (passes (rw (entry-made board n k l) at q)) in
    rw (eq-eqb (code (item_after board k)) session_type kind) (ap of_voter same)
