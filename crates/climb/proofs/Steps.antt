-- The ancestry of an item goes on with that of its parent, or ends at genesis, and what one step of the climb writes. Assumes nothing.
use Prim.Native.Nat.{ℕ, zero, suc, ◌+◌, ◌-◌, ◌≤◌, ◌<◌}
use native.Mathlib.Nat.{le_refl, not-suc-le-zero}
use native.Mathlib.Decide.{dec_lt}
use native.Mathlib.Omega.{arith}
use mathlib.Core.Path.{◌≡◌, refl, sym, ap, ◌∙◌}
use mathlib.Core.Logic.{◌≢◌, by_cases}
use mathlib.Core.List.{List, [], ◌∷◌, append-nil}
use lib.ListN.{length, set, take, drop, drop_of_length-le}
use borrow.Rule.Slice.PartMut.{put_mid}
use lib.Seq.{sets, take_all}
use borrow.Author.Tests.{eq-eqb, ne_eqb}
use Rattle.model.specs.Lists.{if◌then◌otherwise◌}
use Rattle.model.specs.History.{History, entry}
use Rattle.model.specs.Ancestry.{up_to, ancestry}
use Rattle.model.proofs.Ancestry.{ancestry-line, line-length}
use Rattle.model.proofs.Unchecked.{length-history}
use Rattle.format.specs.Format.{format_of}
use Rattle.index.specs.Kept.{before, Kept}
use Rattle.index.proofs.Items.{entry-parent-bound}

-- ---- a number, and others behind it

sets-behind : (x : ℕ) (xs : List ℕ) (i : ℕ) (ns : List ℕ) → sets (x ∷ xs) (suc i) ns ≡ x ∷ sets xs i ns
sets-behind x xs i [] = refl
sets-behind x xs i (a ∷ ns) = sets-behind x (set xs i a) (suc i) ns

written-both : (list : List ℕ) (k : ℕ) (ns : List ℕ) → 1 ≤ length list → let first = set list 0 k in
    put_mid 1 (length first - 1) first (sets (take (length first - 1) (drop 1 first)) 0 ns) ≡ sets list 0 (k ∷ ns)
written-both [] k ns l = absurd (not-suc-le-zero l)
written-both (x ∷ xs) k ns l =
    let size : suc (length xs) - 1 ≡ length xs = omega arith in
    rw (size, take_all (length xs) xs (le_refl (length xs)), drop_of_length-le xs {i = length xs} (le_refl (length xs)), append-nil) (sym (sets-behind k xs 0 ns))

-- ---- the ancestry

-- it has no more numbers than the item's own
pub ancestry-few : {board index : List ℕ} {items number : ℕ} → Kept board index items → 1 ≤ number → number ≤ items
    → length (ancestry (before board items) number) ≤ number
ancestry-few {board} {items = items} {number = number} kept some few =
    line-length (ancestry-line kept.passed number some (omega (arith, length-history (format_of board) board items)))

module _ {board index : List ℕ} {n : ℕ} (kept : Kept board index n) where
  abbrev h : History
  h = before board n

  abbrev up : ℕ → ℕ
  up k = (entry h k).parent

  -- as many steps as the item's number are enough: more change nothing
  enough : (s a b k : ℕ) → a ≤ s → k ≤ a → k ≤ b → 1 ≤ k → k ≤ n → up_to a h k ≡ up_to b h k
  unfolding up_to if◌then◌otherwise◌
  enough zero a b k la ka kb o l = absurd (omega arith)
  enough (suc s) zero b k la ka kb o l = absurd (omega arith)
  enough (suc s) (suc a) zero k la ka kb o l = absurd (omega arith)
  enough (suc s) (suc a) (suc b) k la ka kb o l =
      let bound = entry-parent-bound kept k o l in
      by_cases (dec_lt (up k) k)
      (λ less. rw (ne_eqb (up k) k (λ q. omega arith))
      (ap (λ (rest : List ℕ). k ∷ rest) (enough s a b (up k) (omega arith) (omega arith) (omega arith) bound.0 (omega arith))))
      (λ not-less. let own : up k ≡ k = omega arith in rw (eq-eqb (up k) k own))

  module _ (k : ℕ) (some : 1 ≤ k) (few : k ≤ n) where
    one_more : k ≡ suc (k - 1)
    one_more = omega arith

    pub ancestry-ends : up k ≡ k → ancestry h k ≡ k ∷ []
    unfolding ancestry up_to if◌then◌otherwise◌
    ancestry-ends own = ap (λ (steps : ℕ). up_to steps h k) one_more ∙ rw (eq-eqb (up k) k own)

    pub ancestry-climbs : up k ≢ k → ancestry h k ≡ k ∷ ancestry h (up k)
    unfolding ancestry up_to if◌then◌otherwise◌
    ancestry-climbs other =
        let bound = entry-parent-bound kept k some few in
        ap (λ (steps : ℕ). up_to steps h k) one_more
        ∙ rw (ne_eqb (up k) k other)
        (ap (λ (rest : List ℕ). k ∷ rest) (enough k (k - 1) (up k) (up k) (omega arith) (omega arith) (omega arith) bound.0 (omega arith)))

    -- what `climb` ensures, of the parent that is read
    module _ (parent : ℕ) (is : parent ≡ up k) (list : List ℕ) where
      pub climb-less : parent ≢ k → (1 ≤ parent) × (parent < k)
      climb-less other = let bound = entry-parent-bound kept k some few in (omega arith, omega arith)

      pub climb-ends : parent ≡ k → (1 ≡ length (ancestry h k)) × (set list 0 k ≡ sets list 0 (ancestry h k))
      climb-ends own = let a = ancestry-ends (sym is ∙ own) in (rw a, rw a)

      pub climb-goes : parent ≢ k → k ≤ length list → (further : ℕ) (rest : List ℕ) → further ≡ length (ancestry h parent)
          → rest ≡ sets (take (length (set list 0 k) - 1) (drop 1 (set list 0 k))) 0 (ancestry h parent)
          → (further + 1 ≡ length (ancestry h k)) × (put_mid 1 (length (set list 0 k) - 1) (set list 0 k) rest ≡ sets list 0 (ancestry h k))
      climb-goes other room further rest e s =
          let a = ancestry-climbs (λ q. other (is ∙ q)) in
          (rw (a, ← is) (omega (arith, e)), rw (a, ← is, s) (written-both list k (ancestry h parent) (omega arith)))
