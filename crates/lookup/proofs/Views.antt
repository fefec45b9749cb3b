-- The code's tests of an item, by its view, are the model's tests of the entry that it stands for. Assumes nothing.
use Prim.Native.Nat.{ℕ, ◌+◌, ◌-◌, ◌≤◌}
use native.Mathlib.Nat.{add-zero}
use native.Mathlib.Omega.{arith}
use mathlib.Core.Path.{◌≡◌, sym, ap, ◌∙◌}
use mathlib.Core.Logic.{◌≢◌}
use mathlib.Core.Bool.{Bool, true, false, and-true, beq}
use mathlib.Core.List.{List}
use lib.ListN.{length, get_or}
use lib.Dec.{eqb}
use borrow.Author.Tests.{eq-eqb, ne_eqb}
use Rattle.model.specs.Lists.{if◌then◌otherwise◌, part}
use Rattle.model.specs.Words.{main_kind, same_words}
use Rattle.model.specs.Codes.{session_type}
use Rattle.model.specs.Item.{item_at, item_length}
use Rattle.model.specs.History.{Entry, entry, main, child_of}
use Rattle.model.specs.Phase.{session_of}
use Rattle.format.specs.Format.{format_of}
use Rattle.format.specs.Layout.{item_of}
use Rattle.format.specs.declared.item.Item.{Item}
use Rattle.index.specs.declared.Known.{Known}
use Rattle.index.specs.Kept.{before, Kept}
use Rattle.index.specs.Known.{IsKnown}
use Rattle.index.proofs.Counts.{has_words, entry-words}
use Rattle.index.proofs.Reading.{known-item, known-code, known-main, known-parent, known-session, known-address, known-word}
use Rattle.lookup.specs.Search.{entry_from, addressed}

-- the view of an entry stands for it
pub from-known : {board : List ℕ} {e : Entry} {c : Known} → IsKnown board e c → entry_from board c ≡ e
unfolding item_of
from-known {board} {e} {c} is =
    let place : c.item.place ≡ e.place = ap (λ (k : Known). k.item.place) is.same in
    λ j. record { place = place j; item = (ap (item_at (format_of board) board) place ∙ sym is.item) j; parent = known-parent is j; session = known-session is j }

pub is_known : {board : List ℕ} {e : Entry} {c : Known} → IsKnown board e c → IsKnown board (entry_from board c) c
is_known is = rw (from-known is) is

-- an address ends where its item does, so the code finds its width
module _ (board : List ℕ) (p : ℕ) {i : Item} (e : i ≡ item_of board p) where
  pub address-end : i.end ≡ i.address + (format_of board).address
  unfolding item_of item_length
  address-end = rw e (omega arith)

  pub address-width : i.end - i.address ≡ (format_of board).address
  address-width = omega (arith, address-end)

-- ---- a test's answer of the view is that of the entry

module _ {board : List ℕ} {e : Entry} {c : Known} (is : IsKnown board e c) where
  pub told-left : (left : ℕ) {rest : ℕ} → rest ≡ (if eqb c.item.head.kind main_kind then left - 1 otherwise left)
      → rest ≡ (if main e then left - 1 otherwise left)
  told-left left q = q ∙ rw (known-main is)

  -- ---- the tests themselves

  pub child-same : (parent type : ℕ) → e.parent ≡ parent → eqb c.item.head.code type ≡ child_of parent (λ x. eqb x type) e
  child-same parent type q = rw (← known-code is, eq-eqb e.parent parent q) (sym (and-true (eqb c.item.head.code type)))

  module _ (m : Bool) (address : List ℕ) where
    pub addressed-other : beq (eqb c.item.head.kind main_kind) m ≡ false → beq (eqb c.item.head.kind main_kind) m ≡ addressed m address e
    addressed-other q = rw (← known-main is, q)

    pub addressed-same : length address ≡ (format_of board).address → beq (eqb c.item.head.kind main_kind) m ≡ true
        → {r : Bool} → r ≡ same_words (part c.item.address (length address) board) address → r ≡ addressed m address e
    addressed-same width q s = s ∙ rw (width, ← known-main is, q, known-address is)

  pub known-end : c.item.end ≡ c.item.address + (format_of board).address
  known-end = address-end board e.place (known-item is)

  pub session-other : (voter : ℕ) → c.item.head.code ≢ session_type → false ≡ session_of voter e
  session-other voter n = rw (← known-code is, ne_eqb c.item.head.code session_type n)

  pub session-same : (voter : ℕ) → c.item.head.code ≡ session_type → 1 ≤ c.item.head.count
      → eqb (get_or board c.item.content 0) voter ≡ session_of voter e
  session-same voter q l =
      let word = rw add-zero at (known-word is 0 l) in
      rw (← known-code is, eq-eqb c.item.head.code session_type q, word)

-- a session has a first content word
pub session-words : {board index : List ℕ} {n k : ℕ} {c : Known} → Kept board index n → 1 ≤ k → k ≤ n → IsKnown board (entry (before board n) k) c
    → c.item.head.code ≡ session_type → 1 ≤ c.item.head.count
unfolding has_words
session-words {k = k} kept s l is e =
    let words = entry-words kept k s l session_type 1 26 tt (sym (known-code is) ∙ e) in
    rw (known-item is) words.0
