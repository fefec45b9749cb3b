-- Check 12 by the tests that the code makes. Assumes nothing.
use Prim.Native.Nat.{ℕ, ◌≤◌}
use native.Mathlib.Omega.{arith}
use mathlib.Core.Path.{◌≡◌, refl, sym, ap, ◌∙◌}
use mathlib.Core.Logic.{◌≢◌}
use mathlib.Core.Bool.{Bool, true, false, not, ◌||◌, not-not}
use mathlib.Core.List.{List, [], ◌∷◌}
use lib.ListN.{length}
use lib.Dec.{eqb, eqb-suc-zero}
use borrow.Author.Tests.{ne_eqb}
use Rattle.model.specs.Lists.{◌⇒◌, any}
use Rattle.model.specs.Words.{between}
use Rattle.model.specs.Codes.{genesis_type, threshold_type}
use Rattle.model.specs.Item as model
use Rattle.model.specs.Item.{code}
use Rattle.model.specs.History.{History, typed, child_of, cast_or_spoil, closer}
use Rattle.model.specs.Only.{on_board_ok, under_parent_ok, under_ballot_ok}
use Rattle.model.proofs.Tests.{passes, is_true, facts}
use Rattle.model.proofs.Entries.{Opens, orderly}
use Rattle.model.proofs.Closers.{closer-none, any-closer}
use Rattle.model.proofs.Unchecked.{length-history}
use Rattle.format.specs.Format.{format_of}
use Rattle.index.specs.Kept.{before, item_after}
use Rattle.index.specs.declared.Known.{Known}
use Rattle.state.specs.declared.State.{State}
use Rattle.state.specs.Stands.{AtItem}
use Rattle.state.proofs.At.{at_code, at-parent, parent-in-range}
use Rattle.phases.proofs.Standing.{any-threshold}

-- a history that begins with genesis has one exactly where it has an item
any-opens : (h : History) → Opens h → any (typed genesis_type) h ≡ not (eqb (length h) 0)
unfolding any
any-opens [] o = refl
any-opens (e ∷ es) o = rw (is_true (typed genesis_type e) o, eqb-suc-zero (length es))

module _ {board index : List ℕ} {s : State} {c : Known} (a : AtItem board index s c) where
  abbrev h : History
  h = before board s.items

  abbrev i : model.Item
  i = item_after board s.items

  any-genesis : any (typed genesis_type) h ≡ not (eqb s.items 0)
  any-genesis = any-opens h (orderly a.kept.passed).opens ∙ ap (λ (k : ℕ). not (eqb k 0)) (length-history (format_of board) board s.items)

  -- ---- types 1 and 4

  -- the rule, of a code
  rule : (n : ℕ) → code i ≡ n → on_board_ok h i ≡ (eqb n genesis_type || eqb n threshold_type ⇒ not (any (typed n) h))
  unfolding on_board_ok
  rule n q = ap (λ (x : ℕ). eqb x genesis_type || eqb x threshold_type ⇒ not (any (typed x) h)) q

  pub board-genesis : c.item.head.code ≡ genesis_type → eqb s.items 0 ≡ on_board_ok h i
  unfolding ◌⇒◌
  board-genesis q = sym (rule genesis_type (sym (at_code a) ∙ q) ∙ ap not any-genesis ∙ not-not (eqb s.items 0))

  pub board-threshold : c.item.head.code ≡ threshold_type → eqb s.threshold 0 ≡ on_board_ok h i
  unfolding ◌⇒◌
  board-threshold q = sym (rule threshold_type (sym (at_code a) ∙ q) ∙ ap not (any-threshold a) ∙ not-not (eqb s.threshold 0))

  pub board-other : c.item.head.code ≢ genesis_type → c.item.head.code ≢ threshold_type → true ≡ on_board_ok h i
  unfolding on_board_ok ◌⇒◌
  board-other q r = rw (← at_code a, ne_eqb c.item.head.code genesis_type q, ne_eqb c.item.head.code threshold_type r)

  -- ---- one under a parent

  -- a parent may have one item of the type only
  abbrev single : Bool
  single = between 18 19 c.item.head.code || between 33 34 c.item.head.code || between 48 51 c.item.head.code

  pub parent-other : single ≡ false → true ≡ under_parent_ok h i
  unfolding under_parent_ok ◌⇒◌
  parent-other q = rw (← at_code a, q)

  pub parent-some : single ≡ true → (r : Bool) → r ≡ any (child_of c.parent (λ x. eqb x c.item.head.code)) h
      → not r ≡ under_parent_ok h i
  unfolding under_parent_ok ◌⇒◌
  parent-some q r e = rw (← at_code a, q, ← at-parent a) (ap not e)

  -- ---- one of either under a ballot

  pub ballot-other : cast_or_spoil c.item.head.code ≡ false → true ≡ under_ballot_ok h i
  unfolding under_ballot_ok ◌⇒◌
  ballot-other q = rw (← at_code a, q)

  module _ (closing : cast_or_spoil c.item.head.code ≡ true) where
    -- by what closed its parent
    pub ballot-some : (r : ℕ) → r ≡ closer h c.parent → eqb r 0 ≡ under_ballot_ok h i
    unfolding under_ballot_ok ◌⇒◌
    ballot-some r e =
        rw (← at_code a, closing, ← at-parent a, any-closer a.kept.passed c.parent, e) (sym (not-not (eqb (closer h c.parent) 0)))

    -- none stands under an item that there is not
    pub ballot-none : c.parent ≡ 0 → true ≡ under_ballot_ok h i
    ballot-none q = ballot-some 0 (sym (ap (closer h) q ∙ closer-none h))

    pub ballot-in : c.parent ≢ 0 → (1 ≤ c.parent) × (c.parent ≤ s.items)
    ballot-in n = (omega arith, parent-in-range a (λ q. let range = simp facts at (passes closing) in omega arith))
