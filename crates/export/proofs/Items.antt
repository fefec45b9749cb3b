-- Laws of the items of a board: the text of one as the code knows it, the text of one item more, and how long the text of some is.
-- Paper: request (xi). Assumes nothing.
use Prim.Native.Nat.{ℕ, zero, suc, ◌+◌, ◌*◌, ◌^◌, ◌≤◌, ◌<◌}
use native.Mathlib.Nat.{le_refl}
use native.Mathlib.Numerals.{add-one}
use native.Mathlib.Decide.{dec_le}
use native.Mathlib.Omega.{arith}
use mathlib.Core.Path.{◌≡◌, refl, sym, ap, ◌∙◌}
use mathlib.Core.Logic.{◌≢◌, by_cases}
use mathlib.Core.Bool.{true, false}
use mathlib.Core.List.{List, [], ◌∷◌, ◌++◌, append-nil}
use lib.ListN.{length, length-append}
use lib.Dec.{eqb}
use borrow.Author.Tests.{eqb-true, eqb-false, eq-eqb, ne_eqb}
use Rattle.model.specs.Lists.{if◌then◌otherwise◌, keep}
use Rattle.model.specs.Words.{main_kind}
use Rattle.model.specs.History.{History, Entry, main, main_items, entry, history}
use Rattle.model.specs.Audit.{word_limit}
use Rattle.model.proofs.Tests.{by-test}
use Rattle.model.proofs.Lists.{keep_append}
use Rattle.exporting.specs.Export.{line_of, lines_of, export_text}
use Rattle.exporting.specs.Reading.{AreWords}
use Rattle.exporting.proofs.Text.{lines_of-append}
use Rattle.format.specs.declared.item.Item.{Item}
use Rattle.format.specs.Layout.{item_of, item_on}
use Rattle.format.proofs.Places.{place_is}
use Rattle.index.specs.declared.Known.{Known}
use Rattle.index.specs.Kept.{before, Kept}
use Rattle.index.specs.Known.{IsKnown}
use Rattle.index.proofs.Items.{entry-made}
use Rattle.index.proofs.Reading.{entry_known, known-item, known-main}
use Rattle.export.specs.Lines.{entry_text, Whole, line_limit}
use Rattle.export.proofs.Sizes.{line-few}

-- ---- an item as the code knows it

module _ {board : List ℕ} {e : Entry} {r : Known} (is : IsKnown board e r) where
  known-place : r.item.place ≡ e.place
  known-place = ap (λ (i : Item). i.place) (known-item is) ∙ place_is board e.place

  pub known-whole : length board ≤ word_limit → Whole board r.item
  known-whole l = record { same = known-item is ∙ ap (item_of board) (sym known-place); within = is.within; words = l }

  -- a main item has its line, a hidden one no text
  pub text-main : r.item.head.kind ≡ main_kind → entry_text e ≡ line_of (item_on board r.item.place)
  unfolding entry_text if◌then◌otherwise◌
  text-main q =
      let yes : main e ≡ true = sym (known-main is) ∙ eq-eqb _ _ q in
      rw yes (ap line_of (is.item ∙ ap (item_on board) (sym known-place)))

  pub text-hidden : r.item.head.kind ≢ main_kind → entry_text e ≡ []
  unfolding entry_text if◌then◌otherwise◌
  text-hidden n =
      let no : main e ≡ false = sym (known-main is) ∙ ne_eqb _ _ n in
      rw no

  text-few : length board ≤ word_limit → AreWords board → length (entry_text e) ≤ line_limit
  text-few l small =
      by-test (eqb r.item.head.kind main_kind)
      (λ q. rw (text-main (eqb-true _ _ q)) (line-few (known-whole l) small))
      (λ q. rw (text-hidden (eqb-false _ _ q)) (omega arith))

-- ---- one item more

text-last : (e : Entry) → lines_of (main_items (e ∷ [])) ≡ entry_text e
unfolding keep lines_of entry_text if◌then◌otherwise◌
text-last e = by-test (main e) (λ q. rw q (append-nil (line_of e.item))) (λ q. rw q)

export_text-snoc : (h : History) (e : Entry) → export_text (h ++ (e ∷ [])) ≡ export_text h ++ entry_text e
unfolding export_text
export_text-snoc h e =
    ap lines_of (keep_append main (λ e. e.item) h (e ∷ []))
    ∙ lines_of-append (main_items h) (main_items (e ∷ []))
    ∙ ap (λ (t : List ℕ). lines_of (main_items h) ++ t) (text-last e)

pub export_text-none : (board : List ℕ) → export_text (before board 0) ≡ []
unfolding export_text history keep lines_of
export_text-none board = refl

module _ (board : List ℕ) (items : ℕ) where
  -- the text of the first so many items, and of the item after them
  abbrev so_far : ℕ → List ℕ
  so_far done = export_text (before board done)

  abbrev its : ℕ → List ℕ
  its done = entry_text (entry (before board items) (done + 1))

  pub export_text-next : (done : ℕ) → done < items → so_far (done + 1) ≡ so_far done ++ its done
  unfolding history
  export_text-next done less = rw (add-one, entry-made board items done less) (export_text-snoc _ _)

  pub length-next : (done : ℕ) → done < items → length (so_far (done + 1)) ≡ length (so_far done) + length (its done)
  length-next done less = ap length (export_text-next done less) ∙ length-append (so_far done) (its done)

  -- a sum of lengths, with one more
  pub total-next : (done : ℕ) → done < items → {total n : ℕ} → total ≡ length (so_far done) → n ≡ length (its done)
      → (done + 1 ≤ items) × (total + n ≡ length (so_far (done + 1)))
  total-next done less p q = (omega arith, omega (arith, length-next done less))

-- the text of fewer items is no longer
pub length-grows : (board : List ℕ) (done items : ℕ) → done ≤ items
    → length (export_text (before board done)) ≤ length (export_text (before board items))
length-grows board done zero l = let none : done ≡ 0 = omega arith in rw none (le_refl _)
length-grows board done (suc n) l =
    by_cases (dec_le done n)
    (λ m. omega (arith, length-grows board done n m, rw add-one at (length-next board (suc n) n (le_refl (suc n)))))
    (λ m. let same : done ≡ suc n = omega arith in rw same (le_refl _))

module _ {board index : List ℕ} {items : ℕ} (kept : Kept board index items) (small : AreWords board) where
  -- an item has a line at most
  length-few : (done : ℕ) → done ≤ items → length (export_text (before board done)) ≤ line_limit * done
  length-few zero l = rw export_text-none (le_refl 0)
  length-few (suc n) l =
      let one = text-few (entry_known kept (suc n) (omega arith) l) kept.words small in
      omega (arith, length-few n (omega arith), one, rw add-one at (length-next board items n l))

  -- so their text has fewer than 2 ^ 32 bytes
  pub length-small : (done : ℕ) → done ≤ items → length (export_text (before board done)) < 2 ^ 32
  length-small done l = omega (arith, length-few done l, kept.few)
