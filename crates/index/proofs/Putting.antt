-- One row more in the index table, and what the new item closes. Assumes nothing.
use Prim.Native.Nat.{ℕ, suc, ◌+◌, ◌*◌, ◌≤◌, ◌<◌}
use native.Mathlib.Nat.{add-zero}
use native.Mathlib.Numerals.{towards_suc}
use native.Mathlib.Omega.{arith}
use mathlib.Core.Path.{◌≡◌, sym, ap, ◌∙◌}
use mathlib.Core.Bool.{true, false}
use mathlib.Core.List.{List, [], ◌∷◌, ◌++◌}
use lib.ListN.{length, set, take, length-set, length-take, length-append}
use lib.Dec.{T, eqb}
use lib.Seq.{sets, length-sets, set-append_left, take_all}
use borrow.Author.Tests.{ne_eqb}
use Rattle.model.specs.Lists.{if◌then◌otherwise◌, count}
use Rattle.model.specs.Item as model
use Rattle.model.specs.Item.{code}
use Rattle.model.specs.History.{History, Entry, main, main_number, parent_number, session_number, place_of, history, entry_of, cast_or_spoil}
use Rattle.model.specs.Audit.{word_limit, item_limit, index_row}
use Rattle.model.specs.Report.{no_number, number_word, place_column, parent_column, session_column, mains_column, closer_column, row_place, row_words, index_rows, filled}
use Rattle.model.specs.Sound.{Passed}
use Rattle.model.proofs.Tests.{by-test, passes}
use Rattle.model.proofs.Lists.{count-few}
use Rattle.model.proofs.Entries.{orderly, parent-some, parent-genesis, parent-bound, session-bound}
use Rattle.model.proofs.Unchecked.{length-history}
use Rattle.model.proofs.Tables.{length-index_rows, number-none, filled-append, filled-set}
use Rattle.model.proofs.OneItem.{rows_other, rows-close}
use Rattle.format.specs.declared.head.Head.{Head}
use Rattle.format.specs.Format.{format_of}
use Rattle.format.specs.Layout.{item_of}
use Rattle.format.proofs.Places.{head-is}
use Rattle.index.specs.declared.Known.{Known}
use Rattle.index.specs.Rows.{closed_by}
use Rattle.index.specs.Kept.{before, item_after, anyone, Kept}
use Rattle.index.specs.Known.{Passing}
use Rattle.index.proofs.Items.{passed-more}

-- the row of an item with so many main items before it, that nothing closed yet
abbrev pub row_with : ℕ → Known → List ℕ
row_with mains c = c.item.place ∷ c.parent ∷ number_word c.session ∷ mains ∷ no_number ∷ []

-- the two cases of what an item closes
module _ (c : Known) (n : ℕ) (words : List ℕ) where
  pub closed_none : cast_or_spoil c.item.head.code ≡ false → words ≡ closed_by c n words
  unfolding closed_by if◌then◌otherwise◌
  closed_none q = rw q

  pub closed_some : cast_or_spoil c.item.head.code ≡ true → set words (row_place c.parent closer_column) n ≡ closed_by c n words
  unfolding closed_by if◌then◌otherwise◌
  closed_some q = rw q

pub length-closed : (c : Known) (n : ℕ) (words : List ℕ) → length (closed_by c n words) ≡ length words
unfolding closed_by if◌then◌otherwise◌
length-closed c n words = by-test (cast_or_spoil c.item.head.code) (λ q. rw q (length-set words (row_place c.parent closer_column) n)) (λ q. rw q)

-- what is stored fits a word
pub record Small (c : Known) (m : ℕ) : Type 0 where
  pub place : c.item.place ≤ word_limit
  pub parent : c.parent ≤ item_limit
  pub session : c.session ≤ item_limit
  pub mains : m ≤ item_limit

module _ {board index : List ℕ} {n : ℕ} {c : Known} (p : Passing board index n c) where
  abbrev h : History
  h = before board n

  abbrev i : model.Item
  i = item_after board n

  pub small : (mains : ℕ) → mains ≡ main_number h n → Small c mains
  unfolding entry_of item_of
  small mains e =
      let size = length-history (format_of board) board n in
      let o = orderly p.kept.passed in
      let parent : parent_number h i ≤ suc n =
      by-test (eqb (model.code i) 1) (λ q. omega (arith, parent-genesis h i q)) (λ q. omega (arith, parent-bound h i q)) in
      let session : session_number h i ≤ suc n = omega (arith, session-bound p.meets o) in
      let place : place_of (format_of board) board n ≤ word_limit = omega (arith, p.kept.within, p.kept.words) in
      let fewer : mains ≤ n = rw e (omega (arith, count-few main (take n h), length-take n h)) in
      record {
        place = rw p.known place;
        parent = rw p.known (omega (arith, p.more));
        session = rw p.known (omega (arith, p.more));
        mains = omega (arith, p.more);
      }

  passed-next : Passed (format_of board) anyone (take (place_of (format_of board) board (suc n)) board) (p.kept.verdicts ++ p.verdict) (before board (suc n))
  passed-next = passed-more board n p.within p.kept.passed p.meets

  abbrev new : Entry
  new = entry_of h (place_of (format_of board) board n) i

  abbrev rows : List ℕ
  rows = index_rows h 0 h

  -- behind the rows that stand
  row_put : (mains : ℕ) → mains ≡ main_number h n
      → sets index (index_row * n) (row_with mains c) ≡ filled (length index) (rows ++ row_words new (count main h) 0)
  unfolding entry_of item_of
  row_put mains e =
      let size = length-history (format_of board) board n in
      let long : length rows ≡ index_row * n = length-index_rows h 0 h ∙ ap (λ (k : ℕ). index_row * k) size in
      let all : count main h ≡ mains = sym (e ∙ ap (count main) (take_all n h (omega arith))) in
      let row : List ℕ = row_words new (count main h) 0 in
      let stored : row_with mains c ≡ row = rw (all, number-none) (ap (row_with mains) p.known) in
      let fit : length rows + index_row ≤ length index = omega (arith, p.more, p.kept.room) in
      ap (λ (r : List ℕ). sets index (index_row * n) r) stored
      ∙ ap (λ (words : List ℕ). sets words (index_row * n) row) p.kept.rows
      ∙ ap (λ (k : ℕ). sets (filled (length index) rows) k row) (sym long)
      ∙ sym (filled-append (length index) rows row fit)

  passing-code : c.item.head.code ≡ code i
  unfolding entry_of
  passing-code = ap (λ (k : Known). k.item.head.code) p.known ∙ ap (λ (d : Head). d.code) (head-is board (place_of (format_of board) board n))

  passing-parent : c.parent ≡ parent_number h i
  unfolding entry_of
  passing-parent = ap (λ (k : Known). k.parent) p.known

  -- the ballot that a cast or spoil closes has a row
  pub closes-row : T (cast_or_spoil c.item.head.code) → (1 ≤ c.parent) × (c.parent ≤ n)
  closes-row t =
      let later : eqb (code i) 1 ≡ false = ne_eqb (code i) 1 (λ q. absurd (rw (passing-code ∙ q) at t)) in
      rw passing-parent (parent-some p.meets, omega (arith, parent-bound h i later, length-history (format_of board) board n))

  -- what the item closes, in the table with its row
  abbrev with_row : List ℕ
  with_row = filled (length index) (rows ++ row_words new (count main h) 0)

  closes-none : cast_or_spoil c.item.head.code ≡ false → with_row ≡ filled (length index) (index_rows (before board (suc n)) 0 (before board (suc n)))
  unfolding history
  closes-none q = ap (filled (length index)) (sym (rows_other p.kept.passed p.meets (place_of (format_of board) board n) (rw (← passing-code, q) tt)))

  closes-some : cast_or_spoil c.item.head.code ≡ true
      → set with_row (row_place c.parent closer_column) (suc n) ≡ filled (length index) (index_rows (before board (suc n)) 0 (before board (suc n)))
  unfolding history
  closes-some q =
      let at : ℕ = row_place c.parent closer_column in
      let row : List ℕ = row_words new (count main h) 0 in
      let (some, few) = closes-row (passes q) in
      let long = length-index_rows h 0 h in
      let size = length-history (format_of board) board n in
      let inside : at < length rows = omega arith in
      let closed : set rows (row_place (parent_number h i) closer_column) (suc (length h)) ≡ set rows at (suc n) = rw (passing-parent, size) in
      let next = rows-close p.kept.passed p.meets (place_of (format_of board) board n) (rw (← passing-code) (passes q)) in
      sym (filled-set (length index) (rows ++ row) at (suc n) (simp length-append (omega arith)))
      ∙ ap (filled (length index)) (set-append_left rows row at (suc n) inside ∙ sym (ap (◌++ row) closed) ∙ sym next)

  rows_next : (mains : ℕ) → mains ≡ main_number h n
      → closed_by c (suc n) (sets index (index_row * n) (row_with mains c))
      ≡ filled (length index) (index_rows (before board (suc n)) 0 (before board (suc n)))
  rows_next mains e =
      ap (closed_by c (suc n)) (row_put mains e)
      ∙ by-test (cast_or_spoil c.item.head.code)
      (λ q. sym (closed_some c (suc n) with_row q) ∙ closes-some q)
      (λ q. sym (closed_none c (suc n) with_row q) ∙ closes-none q)

  kept_row : (mains : ℕ) → mains ≡ main_number h n → Kept board (closed_by c (suc n) (sets index (index_row * n) (row_with mains c))) (suc n)
  kept_row mains e = record {
    rows = rw (length-closed, length-sets) (rows_next mains e);
    verdicts = p.kept.verdicts ++ p.verdict;
    passed = passed-next;
    within = p.within;
    few = p.more;
    words = p.kept.words;
    room = rw (length-closed, length-sets) p.kept.room;
  }

  -- the five stores of `put`, and what it closes
  pub kept_next : (session mains : ℕ) → session ≡ number_word c.session → mains ≡ main_number h n → (words : List ℕ)
      → let row = index_row * n in
      let placed = set index (row + place_column) c.item.place in
      let linked = set (set placed (row + parent_column) c.parent) (row + session_column) session in
      words ≡ closed_by c (n + 1) (set (set linked (row + mains_column) mains) (row + closer_column) no_number) → Kept board words (n + 1)
  kept_next session mains s e words q = rw (q, s) (simp (towards_suc, add-zero) (kept_row mains e))
