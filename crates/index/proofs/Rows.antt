-- The rows of the index table: what is read from a row. Assumes nothing.
use Prim.Native.Nat.{ℕ, zero, suc, ◌≤◌, ◌<◌}
use native.Mathlib.Omega.{arith}
use mathlib.Core.Path.{◌≡◌, refl, sym, ap, subst, ◌∙◌}
use mathlib.Core.List.{List}
use lib.ListN.{length}
use borrow.Author.Tests.{ne_eqb}
use Rattle.model.specs.Lists.{if◌then◌otherwise◌}
use Rattle.model.specs.Item.{item_length}
use Rattle.model.specs.History.{Entry, entry, closer}
use Rattle.model.specs.Audit.{item_limit}
use Rattle.model.specs.Report.{no_number, number_word, place_column, parent_column, session_column, closer_column, row_word}
use Rattle.model.proofs.Closers.{closer-bound}
use Rattle.model.proofs.Unchecked.{length-history}
use Rattle.model.proofs.Rows.{SaysOf, index-says}
use Rattle.format.specs.declared.item.Item.{Item}
use Rattle.format.specs.Format.{format_of}
use Rattle.format.specs.Layout.{item_of}
use Rattle.index.specs.Rows.{number_in}
use Rattle.index.specs.Kept.{before, Kept}
use Rattle.index.specs.Known.{IsKnown}
use Rattle.index.proofs.Items.{entry-item, entry-session-bound, item-within}

-- a word gives its item number back
number-back : (n : ℕ) → n ≤ item_limit → number_in (number_word n) ≡ n
unfolding number_word number_in if◌then◌otherwise◌
number-back zero l = refl
number-back (suc n) l = rw (ne_eqb (suc n) 0 (λ q. omega arith), ne_eqb (suc n) no_number (λ q. omega arith))

module _ {board index : List ℕ} {n : ℕ} (kept : Kept board index n) where
  -- the row of item k
  module _ (k : ℕ) (some : 1 ≤ k) (few : k ≤ n) where
    abbrev here : Entry
    here = entry (before board n) k

    pub row-says : SaysOf index (before board n) k
    row-says =
        subst (λ (words : List ℕ). SaysOf words (before board n) k) (sym kept.rows)
        (index-says (length index) (before board n) k some (omega (arith, length-history (format_of board) board n)))

    -- what `closer` makes of it
    pub row-closer : number_in (row_word index k closer_column) ≡ closer (before board n) k
    row-closer =
        let small : closer (before board n) k ≤ item_limit = omega (arith, closer-bound (before board n) k, length-history (format_of board) board n, kept.few) in
        ap number_in row-says.closer ∙ number-back (closer (before board n) k) small

    -- its head stands on the board
    pub place-within : here.place < length board
    unfolding item_of item_length
    place-within = omega (arith, item-within kept k some few)

    -- what `entry` makes of the row
    pub known_is : (place parent session : ℕ) (item : Item) → place ≡ row_word index k place_column → item ≡ item_of board place
        → parent ≡ row_word index k parent_column → session ≡ number_in (row_word index k session_column)
        → IsKnown board here (record { item = item; parent = parent; session = session })
    known_is place parent session item p i q s =
        let small : here.session ≤ item_limit = omega (arith, entry-session-bound kept k some few, kept.few) in
        let same : item ≡ item_of board here.place = i ∙ ap (item_of board) (p ∙ row-says.place) in
        let own : session ≡ here.session = s ∙ ap number_in row-says.session ∙ number-back here.session small in
        let up : parent ≡ here.parent = q ∙ row-says.parent in
        record {
          same = λ j. record { item = same j; parent = up j; session = own j };
          item = entry-item board n k some few;
          within = rw same (item-within kept k some few).0;
        }
