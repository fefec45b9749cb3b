-- The content words of an item, as they stand in the board: of the item that is judged, and of an earlier one. Assumes nothing.
use Prim.Native.Nat.{ℕ, zero, suc, ◌+◌, ◌≤◌, ◌<◌}
use native.Mathlib.Nat.{not-suc-le-zero}
use native.Mathlib.Omega.{arith}
use mathlib.Core.Path.{◌≡◌, sym, ap, ◌∙◌}
use mathlib.Core.Bool.{Bool, true, false}
use mathlib.Core.List.{List}
use lib.ListN.{length, get_or, get_or-eq_default}
use borrow.Author.Tests.{eq-eqb, ne_eqb}
use lib.Dec.{eqb}
use Rattle.model.specs.Lists.{◌⇒◌, part}
use Rattle.model.specs.Item.{Item, code, word}
use Rattle.model.specs.History.{History, Entry, absent, entry, item_no}
use Rattle.model.proofs.Parts.{length_part}
use Rattle.model.proofs.Numbers.{entry-none}
use Rattle.format.specs.declared.item.Item as layout
use Rattle.format.proofs.Places.{content-is}
use Rattle.index.specs.declared.Known.{Known}
use Rattle.index.specs.Kept.{item_after}
use Rattle.index.specs.Known.{IsKnown}
use Rattle.index.proofs.Reading.{known-item}
use Rattle.state.specs.declared.State.{State}
use Rattle.state.specs.Stands.{AtItem}
use Rattle.state.proofs.At.{at_code, at_places, at-content-words}

-- ---- an earlier item

module _ (h : History) (k : ℕ) where
  no_word : (e : Entry) → e ≡ absent → 0 ≡ word k e.item
  no_word e q = sym (get_or-eq_default e.item.content 0 (omega (arith, ap (λ (x : Entry). length x.item.content) q)))

  pub word_none : (n : ℕ) → n ≡ 0 → 0 ≡ word k (item_no h n)
  word_none n q = no_word (entry h n) (ap (entry h) q ∙ entry-none h)

  pub word_after : (n : ℕ) → length h < n → 0 ≡ word k (item_no h n)
  unfolding entry
  word_after zero l = absurd (not-suc-le-zero l)
  word_after (suc n) l = no_word (entry h (suc n)) (get_or-eq_default h absent (omega arith))

module _ {board : List ℕ} {e : Entry} {r : Known} (is : IsKnown board e r) where
  pub known-content : part r.item.content r.item.head.count board ≡ e.item.content
  known-content =
      ap (λ (i : layout.Item). part i.content i.head.count board) (known-item is)
      ∙ content-is board e.place
      ∙ ap (λ (i : Item). i.content) (sym is.item)

  pub known-content-word : (k : ℕ) → get_or (part r.item.content r.item.head.count board) k 0 ≡ word k e.item
  known-content-word k = ap (λ (l : List ℕ). get_or l k 0) known-content

-- ---- the item that is judged

module _ {board index : List ℕ} {s : State} {c : Known} (a : AtItem board index s c) where
  pub content-within : c.item.content + c.item.head.count ≤ length board
  content-within = let places = at_places a in omega arith

  pub content-length : length (item_after board s.items).content ≡ c.item.head.count
  content-length = ap length (sym (at-content-words a)) ∙ length_part c.item.content c.item.head.count board content-within

  -- its type, tested
  pub is-type : (t : ℕ) → c.item.head.code ≡ t → eqb (code (item_after board s.items)) t ≡ true
  is-type t q = eq-eqb _ _ (sym (at_code a) ∙ q)

  pub not-type : (t : ℕ) → (c.item.head.code ≡ t → ⊥) → eqb (code (item_after board s.items)) t ≡ false
  not-type t q = ne_eqb _ _ (λ e. q (at_code a ∙ e))

  -- a rule of its type, and one of another
  pub of-type : (t : ℕ) → c.item.head.code ≡ t → (rule : Bool) → rule ≡ (eqb (code (item_after board s.items)) t ⇒ rule)
  unfolding ◌⇒◌
  of-type t q rule = rw (is-type t q)

  pub of-other : (t : ℕ) → (c.item.head.code ≡ t → ⊥) → (rule : Bool) → true ≡ (eqb (code (item_after board s.items)) t ⇒ rule)
  unfolding ◌⇒◌
  of-other t q rule = rw (not-type t q)
