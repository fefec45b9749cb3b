-- The numbers of the parent and of the session of an item that is judged, from what the code reads of it. Assumes nothing.
use Prim.Native.Nat.{ℕ, ◌+◌, ◌-◌, ◌≤◌}
use native.Mathlib.Omega.{arith}
use mathlib.Core.Path.{◌≡◌, sym, ap, ◌∙◌}
use mathlib.Core.Logic.{◌≢◌}
use mathlib.Core.Bool.{Bool, false}
use mathlib.Core.List.{List}
use lib.ListN.{length, take, drop, length-drop}
use lib.Seq.{length-take-le}
use lib.Dec.{eqb, leb}
use borrow.Author.Tests.{eq-eqb, ne_eqb}
use Rattle.model.specs.Lists.{part}
use Rattle.model.specs.Codes.{genesis_type, session_type, track_type}
use Rattle.model.specs.Item as model
use Rattle.model.specs.Item.{item_at, item_length, code}
use Rattle.model.specs.History.{History, Entry, entry, first, parent_number, session_number}
use Rattle.model.proofs.Numbers.{entry-none}
use Rattle.model.proofs.Entries.{parent-genesis, parent-first, parent-bound, session-genesis, session-own, session-up}
use Rattle.model.proofs.Unchecked.{length-history}
use Rattle.format.specs.declared.head.Head.{Head}
use Rattle.format.specs.declared.item.Item.{Item}
use Rattle.format.specs.Format.{format_of}
use Rattle.format.specs.Layout.{item_of}
use Rattle.format.proofs.Places.{head-is, parent_is}
use Rattle.index.specs.declared.Known.{Known}
use Rattle.index.specs.Kept.{before}
use Rattle.index.specs.Known.{IsKnown}
use Rattle.index.proofs.Reading.{known-session}
use Rattle.lookup.specs.Search.{addressed}

-- the words between two places of a board, an address
pub record Sliced (board : List ℕ) (from to : ℕ) : Type 0 where
  pub start : from ≤ to
  pub within : to ≤ length board
  pub width : to - from ≡ (format_of board).address

pub sliced-length : {board : List ℕ} {from to : ℕ} → Sliced board from to → length (take (to - from) (drop from board)) ≡ (format_of board).address
sliced-length {board} {from} {to} s = omega (arith, length-take-le (to - from) (drop from board) (omega (arith, length-drop from board, s.start, s.within)), s.width)

module _ (board : List ℕ) (n : ℕ) (item : Item) (same : item ≡ item_of board item.place) where
  abbrev h : History
  h = before board n

  abbrev i : model.Item
  i = item_at (format_of board) board item.place

  pub code_same : item.head.code ≡ code i
  code_same = ap (λ (x : Item). x.head.code) same ∙ ap (λ (x : Head). x.code) (head-is board item.place)

  later : item.head.code ≢ genesis_type → eqb (code i) genesis_type ≡ false
  later q = rw (← code_same) (ne_eqb item.head.code genesis_type q)

  -- ---- the parent

  pub parent-own : item.head.code ≡ genesis_type → n + 1 ≡ parent_number h i
  parent-own q =
      omega (arith, parent-genesis h i (rw (← code_same) (eq-eqb item.head.code genesis_type q)), length-history (format_of board) board n)

  -- its parent's address stands where the code reads it
  pub parent-slice : item.end ≤ length board → Sliced board item.parent item.previous
  unfolding item_of item_length
  parent-slice l =
      let end = rw same at l in
      rw same (record { start = omega arith; within = omega arith; width = omega arith })

  pub parent-sought : item.head.code ≢ genesis_type → {m : Bool} {r : ℕ} → m ≡ leb item.head.code track_type
      → r ≡ first (addressed m (take (item.previous - item.parent) (drop item.parent board))) h → r ≡ parent_number h i
  unfolding part item_of
  parent-sought q {m} {r} e f =
      let width : item.previous - item.parent ≡ (format_of board).address = rw same (omega arith) in
      let words : part item.parent (format_of board).address board ≡ i.parent =
      ap (λ (x : Item). part x.parent (format_of board).address board) same ∙ parent_is board item.place in
      f ∙ rw (width, e, code_same, words, parent-first h i (later q))

  -- ---- the session, from the parent's number

  pub session-none : item.head.code ≡ genesis_type → 0 ≡ session_number h i
  session-none q = sym (session-genesis h i (rw (← code_same) (eq-eqb item.head.code genesis_type q)))

  module _ (q : item.head.code ≢ genesis_type) where
    pub session-new : item.head.code ≡ session_type → n + 1 ≡ session_number h i
    session-new s =
        omega (arith, session-own h i (later q) (rw (← code_same) (eq-eqb item.head.code session_type s)), length-history (format_of board) board n)

    module _ (parent : ℕ) (found : parent ≡ parent_number h i) where
      pub parent-few : parent ≤ n
      parent-few = omega (arith, parent-bound h i (later q), length-history (format_of board) board n)

      module _ (s : item.head.code ≢ session_type) where
        up : session_number h i ≡ (entry h parent).session
        up =
            session-up h i (later q) (rw (← code_same) (ne_eqb item.head.code session_type s))
            ∙ ap (λ (k : ℕ). (entry h k).session) (sym found)

        pub session-orphan : parent ≡ 0 → 0 ≡ session_number h i
        session-orphan z = sym (up ∙ ap (λ (k : ℕ). (entry h k).session) z ∙ ap (λ (e : Entry). e.session) (entry-none h))

        pub session-parent : (c : Known) → IsKnown board (entry h parent) c → c.session ≡ session_number h i
        session-parent c is = known-session is ∙ sym up
