-- The last sentence of check 11, a voter opening after a spoil of its ballot, by the tests that the code makes. Assumes nothing.
use Prim.Native.Nat.{ℕ, ◌≤◌}
use native.Mathlib.Omega.{arith}
use mathlib.Core.Path.{◌≡◌, refl, sym, ap, ◌∙◌}
use mathlib.Core.Logic.{◌≢◌}
use mathlib.Core.Bool.{Bool, true, false}
use mathlib.Core.List.{List}
use lib.Dec.{eqb}
use borrow.Author.Tests.{eq-eqb, ne_eqb}
use Rattle.model.specs.Lists.{◌⇒◌}
use Rattle.model.specs.Words.{code_of}
use Rattle.model.specs.Codes.{spoil_type, voter_opening_type}
use Rattle.model.specs.Item as model
use Rattle.model.specs.Item.{code}
use Rattle.model.specs.History.{History, entry, item_no, closer}
use Rattle.model.specs.Phase.{track_ballot, is_spoiled, spoiled_ok}
use Rattle.model.proofs.Closers.{closer-none, closer-bound}
use Rattle.model.proofs.Openings.{spoiled-by}
use Rattle.model.proofs.Unchecked.{length-history}
use Rattle.format.specs.Format.{format_of}
use Rattle.index.specs.Kept.{before, item_after, Kept}
use Rattle.index.specs.Known.{IsKnown}
use Rattle.index.specs.declared.Known.{Known}
use Rattle.index.proofs.Items.{entry-parent-bound}
use Rattle.index.proofs.Reading.{known-code}
use Rattle.state.specs.declared.State.{State}
use Rattle.state.specs.Stands.{AtItem}
use Rattle.state.proofs.At.{at_code, at-parent, parent-in-range}

-- ---- by what closed the item

module _ {board index : List ℕ} {n : ℕ} (kept : Kept board index n) (k r : ℕ) (is : r ≡ closer (before board n) k) where
  pub not-closed : r ≡ 0 → false ≡ is_spoiled (before board n) k
  unfolding entry code_of
  not-closed q =
      sym (spoiled-by kept.passed k ∙ ap (λ (x : ℕ). eqb (code (item_no (before board n) x)) spoil_type) (sym is ∙ q))

  pub closer-in : r ≢ 0 → (1 ≤ r) × (r ≤ n)
  closer-in q = (omega arith, omega (arith, closer-bound (before board n) k, length-history (format_of board) board n))

  pub closed-by : {e : Known} → IsKnown board (entry (before board n) r) e
      → eqb e.item.head.code spoil_type ≡ is_spoiled (before board n) k
  closed-by e =
      ap (λ (x : ℕ). eqb x spoil_type) (known-code e)
      ∙ ap (λ (x : ℕ). eqb (code (item_no (before board n) x)) spoil_type) is
      ∙ sym (spoiled-by kept.passed k)

-- ---- the ballot of the item's track

module _ {board index : List ℕ} {s : State} {c : Known} (a : AtItem board index s c) where
  abbrev h : History
  h = before board s.items

  abbrev i : model.Item
  i = item_after board s.items

  pub opening-other : c.item.head.code ≢ voter_opening_type → true ≡ spoiled_ok h i
  unfolding spoiled_ok ◌⇒◌
  opening-other q = rw (← at_code a, ne_eqb c.item.head.code voter_opening_type q)

  -- an item's parent is an item
  pub parent_in : {k p : ℕ} → (1 ≤ k) × (k ≤ s.items) → p ≡ (entry h k).parent → (1 ≤ p) × (p ≤ s.items)
  parent_in {k} (one, all) q = let (low, high) = entry-parent-bound a.kept k one all in (omega arith, omega arith)

  module _ (opened : c.item.head.code ≡ voter_opening_type) where
    rule : spoiled_ok h i ≡ is_spoiled h (track_ballot h c.parent)
    unfolding spoiled_ok ◌⇒◌
    rule = rw (← at_code a, eq-eqb c.item.head.code voter_opening_type opened, ← at-parent a)

    -- without a verifier there is no ballot
    pub opening-none : c.parent ≡ 0 → false ≡ spoiled_ok h i
    unfolding entry
    opening-none q = not-closed a.kept 0 0 (sym (closer-none h)) refl ∙ sym (rule ∙ ap (λ (k : ℕ). is_spoiled h (track_ballot h k)) q)

    pub verifier-in : c.parent ≢ 0 → (1 ≤ c.parent) × (c.parent ≤ s.items)
    verifier-in n = (omega arith, parent-in-range a (λ q. omega arith))

    pub opening-some : (start : ℕ) → start ≡ (entry h c.parent).parent → (ballot : ℕ) → ballot ≡ (entry h start).parent
        → (r : Bool) → r ≡ is_spoiled h ballot → r ≡ spoiled_ok h i
    opening-some start p ballot q r e =
        e ∙ ap (is_spoiled h) (q ∙ ap (λ (k : ℕ). (entry h k).parent) p) ∙ sym rule
