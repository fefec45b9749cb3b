-- The voter of a session, as its number stands on the board. Assumes nothing.
use Prim.Native.Nat.{ℕ, ◌+◌, ◌≤◌, ◌<◌}
use native.Mathlib.Omega.{arith}
use mathlib.Core.Path.{◌≡◌, ap}
use mathlib.Core.Logic.{◌≢◌}
use mathlib.Core.List.{List}
use lib.ListN.{length, get_or}
use Rattle.model.specs.Codes.{session_type}
use Rattle.model.specs.Item.{item_length}
use Rattle.model.specs.History.{History, entry, item_no, session_voter}
use Rattle.model.proofs.Unchecked.{length-history}
use Rattle.format.specs.Format.{format_of}
use Rattle.format.specs.Layout.{item_of}
use Rattle.format.specs.declared.item.Item.{Item}
use Rattle.index.specs.Kept.{before, Kept}
use Rattle.index.specs.Known.{IsKnown}
use Rattle.index.specs.declared.Known.{Known}
use Rattle.index.proofs.Counts.{has_words, entry-words}
use Rattle.index.proofs.Reading.{known-item, known-word}
use Rattle.phases.specs.Session.{IsSession}

pub no-voter : (h : History) (k : ℕ) → k ≡ 0 → 0 ≡ session_voter (item_no h k)
unfolding entry
no-voter h k q = rw q

module _ {board index : List ℕ} {n k : ℕ} (kept : Kept board index n) (a : IsSession (before board n) k) (some : k ≢ 0) where
  pub session-range : (1 ≤ k) × (k ≤ n)
  session-range = let bound = a.bound in let size = length-history (format_of board) board n in (omega arith, omega arith)

  module _ {e : Known} (is : IsKnown board (entry (before board n) k) e) where
    session-words : 19 ≤ e.item.head.count
    unfolding has_words
    session-words =
        let (low, high) = session-range in
        let size = entry-words kept k low high session_type 19 26 tt (a.session low) in
        omega (arith, ap (λ (i : Item). i.head.count) (known-item is))

    pub voter-within : e.item.content < length board
    unfolding item_of item_length
    voter-within =
        let at = ap (λ (i : Item). i.content) (known-item is) in
        let end = ap (λ (i : Item). i.end) (known-item is) in
        omega (arith, is.within)

    pub voter-is : get_or board e.item.content 0 ≡ session_voter (item_no (before board n) k)
    voter-is =
        let add : e.item.content + 0 ≡ e.item.content = omega arith in
        rw add at (known-word is 0 (omega (arith, session-words)))
