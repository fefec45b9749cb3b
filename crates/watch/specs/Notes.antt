-- A watcher's notes, of a time and an address each, held against a board: the first note that disagrees, and why.
-- Paper: request (vi); for the widths request (ix). Assumes nothing.
use Rattle.std.specs.Prelude.{ℕ, zero, suc, ◌+◌, ◌*◌, ◌/◌, ◌≤◌, ◌<◌, ◌≡◌, ◌≢◌, Bool, not, ◌&&◌, List, [], ◌∷◌, length, eqb, ltb}
use Rattle.std.proofs.Math.Option.{Option, none, some}
use Rattle.model.specs.Lists.{if◌then◌otherwise◌, part}
use Rattle.model.specs.Words.{pair, same_words}
use Rattle.model.specs.Refusal.{bad_notes}
use Rattle.model.specs.Format.{Format, time_size}
use Rattle.model.specs.Item.{Item, time}
use Rattle.model.specs.History.{History, Entry, item_no, main, main_item, first}
use Rattle.model.specs.Audit.{Outcome, ◌unless◌, audit}
use Rattle.model.specs.Above.{checked_first, is_bad_run, answered}

-- "at most 1,024 notes"
abbrev pub note_limit : ℕ
note_limit = 1024

-- "notes time and address each time it looks"
pub record Note : Type 0 where
  pub time : ℕ
  pub address : List ℕ

-- "ten words a note"; request (ix): "Watcher's notes are 10, 14 or 18 words"
abbrev pub note_size : Format → ℕ
note_size f = time_size + f.address

abbrev pub note_count : Format → List ℕ → ℕ
note_count f ns = length ns / note_size f

-- note k of the words, from 0 on: its time is two words, the high one first
unfoldable pub note_at : Format → List ℕ → ℕ → Note
note_at f ns k =
    let place = note_size f * k in
    record { time = pair (part place time_size ns); address = part (place + time_size) f.address ns }

-- ---- one note

-- a main item with the noted address
abbrev pub noted_by : Note → Entry → Bool
noted_by n e = main e && same_words e.item.address n.address

-- the item number of the one that is meant: "With an address on two main items the first is meant"; 0 where there is none
unfoldable pub noted_item : Note → History → ℕ
noted_item n h = first (noted_by n) h

-- the number of the item that the note before note k means; 0 before the first
unfoldable pub item_before : Format → List ℕ → History → ℕ → ℕ
item_before f ns h zero = 0
item_before f ns h (suc k) = noted_item (note_at f ns k) h

-- what is wrong with a note
pub data Disagreement : Type 0 where
  no_main_item : Disagreement  -- "whose address is no main item"
  out_of_order : Disagreement  -- "whose main item is earlier than that of the note before"
  too_early : Disagreement  -- "whose time is less than that item's"

-- of note k
unfoldable pub disagreement : Format → List ℕ → History → ℕ → Option Disagreement
unfolding if◌then◌otherwise◌
disagreement f ns h k =
    let note = note_at f ns k in
    let item = noted_item note h in
    if eqb item 0 then some no_main_item
    otherwise if ltb item (item_before f ns h k) then some out_of_order
    otherwise if ltb note.time (time (item_no h item)) then some too_early
    otherwise none

-- ---- all notes

-- what holding notes against a board says
pub data Agreement : Type 0 where
  not_held : Agreement  -- the notes or the board are refused
  all_agree : Agreement  -- "all agree"
  disagrees : ℕ → Disagreement → Agreement  -- "the number, from 1, of the first note" that does not, and what is wrong

-- of note k the answer, if it is wrong
unfoldable pub unless_wrong : ℕ → Option Disagreement → Agreement → Agreement
unless_wrong k none next = next
unless_wrong k (some d) next = disagrees (suc k) d

-- of n notes from note k on
unfoldable pub held_from : Format → List ℕ → History → (k n : ℕ) → Agreement
unfolding unless_wrong
held_from f ns h k zero = all_agree
held_from f ns h k (suc n) = unless_wrong k (disagreement f ns h k) (held_from f ns h (suc k) n)

-- of all of them
abbrev pub held : Format → List ℕ → History → Agreement
held f ns h = held_from f ns h 0 (note_count f ns)

-- ---- the entry: its answer is a report, as the audit's, and beside it the agreement; the index table and the ballot table are as the outcome
-- below leaves them, also where a note disagrees

-- 23: "not whole, or too many"
abbrev pub is_bad_notes : Format → List ℕ → Bool
is_bad_notes f = is_bad_run (note_size f) note_limit

-- with so many words in the index table and in the ballot table: 23 "comes before the audit and changes no sheet"
unfoldable pub notes_audit : Format → (board verdicts roll notes : List ℕ) → (index ballots : ℕ) → Outcome
notes_audit f ws vs roll ns index ballots =
    checked_first
    (bad_notes unless not (is_bad_notes f ns)
    ∷ [])
    (audit f ws vs roll index ballots)

-- from that outcome
abbrev pub agreement : Format → List ℕ → Outcome → Agreement
agreement f ns = answered (λ n k. not_held) (held f ns)

-- ---- what is promised, by the main items of a board

-- main item m is the one that an address means: the first that has it
pub record Meant (is : List Item) (address : List ℕ) (m : ℕ) : Type 0 where
  pub one : 1 ≤ m
  pub inside : m ≤ length is
  pub there : (main_item is m).address ≡ address
  pub first : (j : ℕ) → 1 ≤ j → j < m → (main_item is j).address ≢ address

module _ (f : Format) (ns : List ℕ) (is : List Item) where
  -- note k, from 0 on, is wrong in this way
  unfoldable pub Wrong : ℕ → Disagreement → Type 0
  Wrong k no_main_item = (m : ℕ) → 1 ≤ m → m ≤ length is → (main_item is m).address ≢ (note_at f ns k).address
  Wrong k out_of_order =
      (j : ℕ) × (l : ℕ) × (m : ℕ) × (k ≡ suc j) × Meant is (note_at f ns j).address l × Meant is (note_at f ns k).address m × (m < l)
  Wrong k too_early = (m : ℕ) × Meant is (note_at f ns k).address m × ((note_at f ns k).time < time (main_item is m))

  -- of n notes the one with number i, from 1 on, is the first that is wrong, and d is the first of the ways in which it is
  pub record FirstWrong (n i : ℕ) (d : Disagreement) : Type 0 where
    pub note : ℕ
    pub number : i ≡ suc note
    pub inside : note < n
    pub wrong : Wrong note d
    pub way : d ≡ too_early → Wrong note out_of_order → ⊥
    pub before : (j : ℕ) → j < note → (e : Disagreement) → Wrong j e → ⊥
