-- What is claimed of a watcher's notes, in the order of the request. Each claim is proved on the page that its proof names.
-- Nothing is assumed of the format, as on the page `Demands` of model, which has the claims of cuts behind any item and all others.
use Prim.Native.Nat.{ℕ, suc, ◌+◌, ◌*◌, ◌^◌, ◌≤◌, ◌<◌}
use mathlib.Core.Path.{◌≡◌, refl}
use mathlib.Core.Logic.{◌≢◌, ◌↔◌}
use mathlib.Core.List.{List, ◌∷◌, map}
use lib.ListN.{length, get_or, take}
use lib.Dec.{T}
use Rattle.model.specs.Lists.{part, count}
use Rattle.model.specs.Format.{Format, Hashes, secp256r1, secp384r1, secp521r1, format_on}
use Rattle.model.specs.Traits.{format_of}
use Rattle.model.specs.Item.{time, unsigned}
use Rattle.model.specs.History.{History, entry, item_no, main, main_item, main_items, main_number, end_address}
use Rattle.model.specs.Audit.{Outcome, unread, accepted, audit}
use Rattle.model.specs.Report.{Refuses, index_after, ballots_after}
use Rattle.model.specs.Compare.{apart, same}
use Rattle.model.specs.Comparing.{ComparingAnswer, compared, comparing_answer, Answered}
use Rattle.model.specs.Cut.{cut_board, cut_verdicts}
use Rattle.watch.specs.Notes.{Note, note_size, note_count, note_at, noted_item, Disagreement, not_held, all_agree, disagrees, notes_audit, agreement, Meant, Wrong, FirstWrong}
use Rattle.model.proofs.Report
use Rattle.watch.proofs.Notes
use Rattle.watch.proofs.NotedCuts

-- ---- request (vi): a watcher's notes

-- "ten words a note"; (ix) "Watcher's notes are 10, 14 or 18 words"
pub note-sizes : (s : Hashes) (w : ℕ) → (note_size (format_on s secp256r1 w) ≡ 10) × (note_size (format_on s secp384r1 w) ≡ 14)
    × (note_size (format_on s secp521r1 w) ≡ 18)
note-sizes s w = (refl, refl, refl)

-- note k, from 0 on, of whole notes: its words are a time, the high word first, and then an address of the format's width
pub note-words : (f : Format) (ns : List ℕ) (n k : ℕ) → length ns ≡ n * note_size f → k < n → let note = note_at f ns k in let at = k * note_size f in
    (part at (note_size f) ns ≡ get_or ns at 0 ∷ get_or ns (at + 1) 0 ∷ note.address)
    × (note.time ≡ get_or ns at 0 * 2 ^ 32 + get_or ns (at + 1) 0) × (length note.address ≡ f.address)
note-words = Notes.note-words

module _ (s : Hashes) (ws vs roll ns index ballots : List ℕ) where
  abbrev formed : Format
  formed = format_of s ws

  abbrev holding : Outcome
  holding = notes_audit formed ws vs roll ns (length index) (length ballots)

  -- ns are n whole notes of the board's width, and not too many
  abbrev AreNotes : ℕ → Type 0
  AreNotes n = (length ns ≡ n * note_size formed) × (n ≤ 1024)

  -- 23 "(bad notes: not whole, or too many) comes before the audit": it is given exactly there
  pub bad-notes : (holding ≡ unread 23) ↔ ((n : ℕ) → AreNotes n → ⊥)
  bad-notes = Notes.bad-notes s ws vs roll ns (length index) (length ballots)

  -- and it "changes no sheet"; nor do the audit's own refusals that come before anything is read
  pub notes-unread : (n : ℕ) → holding ≡ unread n → (index_after holding index ≡ index) × (ballots_after holding ballots ≡ ballots)
  notes-unread n e = (Report.table-unchanged holding _ index e, Report.table-unchanged holding _ ballots e)

  -- without it the outcome is the audit's: so are the report and both tables, which are what the outcome gives, also where a note disagrees
  pub notes-audited : (n : ℕ) → AreNotes n → holding ≡ audit formed ws vs roll (length index) (length ballots)
  notes-audited = Notes.notes-audited s ws vs roll ns (length index) (length ballots)

  -- no note is held against a board that is refused, and notes are held against every board that is accepted
  pub not-held : (agreement formed ns holding ≡ not_held) ↔ ((n : ℕ) × (k : ℕ) × Refuses formed holding n k)
  not-held = Notes.not-held s ws vs roll ns (length index) (length ballots)

  module _ (h : History) (a : holding ≡ accepted h) (n : ℕ) (are : AreNotes n) where
    -- "the number, from 1, of the first note whose address is no main item, or whose main item is earlier than that of the note before, or whose time
    -- is less than that item's", with the first of these reasons that it has;
    pub first-note : (i : ℕ) (d : Disagreement) → (agreement formed ns holding ≡ disagrees i d) ↔ FirstWrong formed ns (main_items h) n i d
    first-note = Notes.first-note s ws vs roll ns (length index) (length ballots) h a n are

    -- "else it says that all agree"
    pub notes-agree : (agreement formed ns holding ≡ all_agree) ↔ ((k : ℕ) → k < n → (d : Disagreement) → Wrong formed ns (main_items h) k d → ⊥)
    notes-agree = Notes.notes-agree s ws vs roll ns (length index) (length ballots) h a n are

-- it rests on the main items alone: other hidden tracks do not change it
pub notes-alone : (f : Format) (ns : List ℕ) (g h : History) → main_items g ≡ main_items h
    → agreement f ns (accepted g) ≡ agreement f ns (accepted h)
notes-alone = Notes.notes-alone

-- notes that all agree with an accepted board, and one of them, note k, from 0 on
module _ (s : Hashes) (ws vs roll ns : List ℕ) (index ballots : ℕ) (h : History) (a : notes_audit (format_of s ws) ws vs roll ns index ballots ≡ accepted h)
    (all : agreement (format_of s ws) ns (accepted h) ≡ all_agree) (k : ℕ) (inside : k < note_count (format_of s ws) ns) where
  abbrev note : Note
  note = note_at (format_of s ws) ns k

  -- "the board cut at each noted item": that item's number, and the cut's words; its verdict words are `cut_verdicts vs item`
  abbrev item : ℕ
  item = noted_item note h

  abbrev cut_words : List ℕ
  cut_words = cut_board (format_of s ws) ws item

  -- that item is the first main item with the noted address, and its time is not after the note's
  pub noted-item : (1 ≤ item) × (item ≤ length h) × T (main (entry h item)) × Meant (main_items h) note.address (main_number h item)
      × (time (item_no h item) ≤ note.time)
  noted-item = Notes.noted-item s ws vs roll ns index ballots h a all k inside

  -- with tables that are long enough the cut is accepted "with the same roll", with the items up to there, and "has the noted address as its end"
  module _ (room roomy : ℕ) (long : 10240 ≤ room) (longs : 1224 ≤ roomy) where
    pub noted-cut : (format_of s cut_words ≡ format_of s ws) × (audit (format_of s cut_words) cut_words (cut_verdicts vs item) roll room roomy ≡ accepted (take item h))
        × (end_address (format_of s cut_words) (take item h) ≡ note.address)
    noted-cut = NotedCuts.noted-cut s ws vs roll ns index ballots h a all k inside room roomy long longs

  -- "so the comparison's guarantee applies to each cut": it is compared, as the kept board, with any board that is accepted, at any of its main items.
  -- All that demand 3 says of the answer holds, and the end address of which it speaks is the noted one
  module _ (lb lv lr ki kt li lt : List ℕ) (b : ℕ) (long : 10240 ≤ length ki) (longs : 1224 ≤ length kt) (l : History)
      (accepts : audit (format_of s lb) lb lv lr (length li) (length lt) ≡ accepted l) (one : 1 ≤ b) (there : b ≤ count main l) where
    abbrev answer : ComparingAnswer
    answer = comparing_answer (audit (format_of s cut_words) cut_words (cut_verdicts vs item) roll (length ki) (length kt)) (audit (format_of s lb) lb lv lr (length li) (length lt)) b

    pub noted-compared : Answered (format_of s cut_words) (format_of s lb) (take item h) l b answer
        × (end_address (format_of s cut_words) (take item h) ≡ note.address)
    noted-compared = NotedCuts.noted-compared s ws vs roll ns index ballots h a all k inside lb lv lr ki kt li lt b long longs l accepts one there

    -- so it is "apart exactly when" the noted address "does not stand at that item",
    pub noted-apart : (answer ≡ compared apart) ↔ (note.address ≢ (main_item (main_items l) b).address)
    noted-apart = NotedCuts.noted-apart s ws vs roll ns index ballots h a all k inside lb lv lr ki kt li lt b long longs l accepts one there

    -- and "same exactly when both have the same main items up to there", signatures left aside: the board that was noted, up to the noted item, and the other
    pub noted-same : (answer ≡ compared same) ↔ (map unsigned (take (main_number h item) (main_items h)) ≡ map unsigned (take b (main_items l)))
    noted-same = NotedCuts.noted-same s ws vs roll ns index ballots h a all k inside lb lv lr ki kt li lt b long longs l accepts one there

  -- "either one given as the kept and the other as the later": so it is as the later board, at any of its own main items
  module _ (kb kv kr ki kt li lt : List ℕ) (b : ℕ) (long : 10240 ≤ length li) (longs : 1224 ≤ length lt) (g : History)
      (accepts : audit (format_of s kb) kb kv kr (length ki) (length kt) ≡ accepted g) (one : 1 ≤ b) (there : b ≤ main_number h item) where
    pub noted-later : Answered (format_of s kb) (format_of s cut_words) g (take item h) b
        (comparing_answer (audit (format_of s kb) kb kv kr (length ki) (length kt))
        (audit (format_of s cut_words) cut_words (cut_verdicts vs item) roll (length li) (length lt)) b)
    noted-later = NotedCuts.noted-later s ws vs roll ns index ballots h a all k inside kb kv kr ki kt li lt b long longs g accepts one there

-- if all agree, no note means an earlier main item than the note before: each cut is a beginning of the next
pub noted-order : (s : Hashes) (ws vs roll ns : List ℕ) (index ballots : ℕ) (h : History) → notes_audit (format_of s ws) ws vs roll ns index ballots ≡ accepted h
    → agreement (format_of s ws) ns (accepted h) ≡ all_agree → (k : ℕ) → suc k < note_count (format_of s ws) ns
    → main_number h (noted_item (note_at (format_of s ws) ns k) h) ≤ main_number h (noted_item (note_at (format_of s ws) ns (suc k)) h)
noted-order = Notes.noted-order
