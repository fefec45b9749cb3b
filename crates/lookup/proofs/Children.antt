-- A search may begin at any item before which no item passes its test: so the children of an item are sought from that item on.
-- Assumes nothing.
use Prim.Native.Nat.{ℕ, zero, suc, max, ◌≤◌, ◌<◌}
use native.Mathlib.Nat.{not-suc-le-zero}
use native.Mathlib.Numerals.{add-one}
use native.Mathlib.Decide.{dec_le}
use native.Mathlib.Omega.{arith}
use mathlib.Core.Path.{◌≡◌, refl, sym, ◌∙◌}
use mathlib.Core.Logic.{by_cases}
use mathlib.Core.Bool.{Bool, false, and-false}
use mathlib.Core.List.{List}
use lib.Dec.{eqb}
use borrow.Author.Tests.{ne_eqb}
use Rattle.model.specs.Lists.{any}
use Rattle.model.specs.Item.{code}
use Rattle.model.specs.History.{Entry, entry, child_of}
use Rattle.index.specs.Kept.{before, Kept}
use Rattle.index.proofs.Items.{entry-parent-bound}
use Rattle.lookup.proofs.Steps.{from, any-goes, any-ends}

-- no item before number k passes: those from k on are as good as all
module _ (board : List ℕ) (n : ℕ) (p : Entry → Bool) where
  any-from : (k : ℕ) → 1 ≤ k → ((j : ℕ) → 1 ≤ j → j < k → j ≤ n → p (entry (before board n) j) ≡ false)
      → any p (before board n) ≡ any p (from board n k)
  any-from zero s none = absurd (not-suc-le-zero s)
  any-from (suc zero) s none = refl
  any-from (suc (suc k)) s none =
      any-from (suc k) (omega arith) (λ j a b c. none j a (omega arith) c)
      ∙ by_cases (dec_le (suc k) n)
      (λ l. rw add-one at (any-goes board n p (suc k) (omega arith) l false (sym (none (suc k) (omega arith) (omega arith) l)) refl))
      (λ l. any-ends board n p (suc k) (omega arith) ∙ sym (any-ends board n p (suc (suc k)) (omega arith)))

-- where the search begins
pub begin-some : (parent : ℕ) → 1 ≤ max parent 1
begin-some parent = omega arith

module _ {board index : List ℕ} {n : ℕ} (kept : Kept board index n) (parent : ℕ) (q : ℕ → Bool) where
  -- an item before number parent has another parent
  before_parent : (k : ℕ) → 1 ≤ k → k < parent → k ≤ n → child_of parent q (entry (before board n) k) ≡ false
  before_parent k s less l =
      let e = entry (before board n) k in
      let other : eqb e.parent parent ≡ false = ne_eqb e.parent parent (λ same. omega (arith, (entry-parent-bound kept k s l).1)) in
      rw other (and-false (q (code e.item)))

  pub begin-all : any (child_of parent q) (before board n) ≡ any (child_of parent q) (from board n (max parent 1))
  begin-all =
      any-from board n (child_of parent q) (max parent 1) (begin-some parent) (λ j s l m. before_parent j s (omega arith) m)
