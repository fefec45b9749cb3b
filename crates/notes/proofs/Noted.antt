-- The item that a note means: what the code finds by the words of the note. It is one of the board's. Assumes nothing.
use Prim.Native.Nat.{ℕ, ◌+◌, ◌*◌, ◌≤◌}
use native.Mathlib.Omega.{arith}
use mathlib.Core.Path.{◌≡◌, refl, sym, ap, ◌∙◌}
use mathlib.Core.Bool.{Bool, true, false, ◌&&◌, beq}
use mathlib.Core.List.{List}
use Rattle.model.specs.Lists.{part}
use Rattle.model.specs.Words.{pair, same_words}
use Rattle.model.specs.Format.{time_size}
use Rattle.model.specs.Item as model
use Rattle.model.specs.Item.{time}
use Rattle.model.specs.History.{History, Entry, main, first}
use Rattle.watch.specs.Notes.{Note, note_size, note_at, noted_by, noted_item}
use Rattle.model.proofs.Numbers.{first-bound}
use Rattle.model.proofs.Unchecked.{length-history}
use Rattle.format.specs.declared.item.Item.{Item}
use Rattle.format.specs.Format.{format_of}
use Rattle.format.proofs.Places.{time-is}
use Rattle.index.specs.declared.Known.{Known}
use Rattle.index.specs.Kept.{before}
use Rattle.index.specs.Known.{IsKnown}
use Rattle.index.proofs.Reading.{known-item}
use Rattle.lookup.specs.Search.{addressed}

-- the code's test of a main item is the model's
is_true : (b : Bool) → beq b true ≡ b
is_true true = refl
is_true false = refl

same_test : (n : Note) → addressed true n.address ≡ noted_by n
same_test n = λ j e. is_true (main e) j && same_words e.item.address n.address

-- what the search of note k finds, by the size that the code finds
pub noted-found : (board notes : List ℕ) (k : ℕ) {s : ℕ} → s ≡ note_size (format_of board) → (h : History) {r : ℕ}
    → r ≡ first (addressed true (part (s * k + time_size) (format_of board).address notes)) h → r ≡ noted_item (note_at (format_of board) notes k) h
unfolding noted_item note_at
noted-found board notes k e h q = q ∙ rw e (ap (λ (p : Entry → Bool). first p h) (same_test (note_at (format_of board) notes k)))

-- its time, where the code reads it
pub noted-time : (board notes : List ℕ) (k : ℕ) {s : ℕ} → s ≡ note_size (format_of board) → {t : ℕ}
    → t ≡ pair (part (s * k) time_size notes) → t ≡ (note_at (format_of board) notes k).time
unfolding note_at
noted-time board notes k e q = q ∙ rw e

-- it is one of the items
pub noted-inside : (board : List ℕ) (n : ℕ) (note : Note) {r : ℕ} → r ≡ noted_item note (before board n) → r ≤ n
unfolding noted_item
noted-inside board n note e =
    omega (arith, e, first-bound (noted_by note) (before board n), length-history (format_of board) board n)

-- the time of an item, where the code reads it
pub known-time : {board : List ℕ} {e : Entry} {c : Known} → IsKnown board e c → pair (part c.item.time time_size board) ≡ time e.item
known-time {board} {e} is =
    ap (λ (x : Item). pair (part x.time time_size board)) (known-item is)
    ∙ time-is board e.place
    ∙ ap (λ (x : model.Item). time x) (sym is.item)
