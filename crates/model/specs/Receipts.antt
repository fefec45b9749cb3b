-- Receipts that voters hold, many answered at once: for each the main number of its cast. The paper's tray is the run of words of the receipts,
-- its sheet the answers buffer. Paper: request (ii); for the widths request (ix). Assumes nothing.
use Rattle.std.specs.Prelude.{ℕ, ◌+◌, ◌*◌, ◌/◌, Bool, not, ◌&&◌, List, [], ◌∷◌, length, leb}
use Rattle.model.specs.Lists.{part, tabulate}
use Rattle.model.specs.Words.{same_words}
use Rattle.model.specs.Codes.{cast_type}
use Rattle.model.specs.Refusal.{short_table, bad_receipts}
use Rattle.model.specs.Format.{Format}
use Rattle.model.specs.Item.{Item}
use Rattle.model.specs.History.{History, Entry, typed, first, main_number}
use Rattle.model.specs.Audit.{Outcome, ◌unless◌, audit}
use Rattle.model.specs.Report.{number_word, filled}
use Rattle.model.specs.Above.{checked_first, is_bad_run, buffer_after}

-- "at most 512"
abbrev pub receipt_limit : ℕ
receipt_limit = 512

-- "each 16 words of signature and 8 of address"; request (ix): "parent, previous, address and receipt follow"
pub record Receipt : Type 0 where
  pub signature : List ℕ
  pub address : List ℕ

abbrev pub receipt_size : Format → ℕ
receipt_size f = f.signature + f.address

abbrev pub receipt_count : Format → List ℕ → ℕ
receipt_count f rs = length rs / receipt_size f

-- receipt k of the words, from 0 on
unfoldable pub receipt_at : Format → List ℕ → ℕ → Receipt
receipt_at f rs k =
    let place = receipt_size f * k in
    record { signature = part place f.signature rs; address = part (place + f.signature) f.address rs }

-- ---- a search for one receipt alone

-- "that address and signature"
abbrev pub matches : Receipt → Item → Bool
matches r i = same_words i.address r.address && same_words i.signature r.signature

-- a "cast with that address and signature"
abbrev pub cast_of : Receipt → Entry → Bool
cast_of r e = typed cast_type e && matches r e.item

-- "the main number of the first .., or 4,294,967,295"
unfoldable pub receipt_answer : Receipt → History → ℕ
receipt_answer r h = number_word (main_number h (first (cast_of r) h))

-- ---- the entry: its answer is a report, as the audit's; the index table and the ballot table are as the outcome below leaves them

-- 22: "not whole receipts, or too many"
abbrev pub is_bad_receipts : Format → List ℕ → Bool
is_bad_receipts f = is_bad_run (receipt_size f) receipt_limit

-- with so many words in the index table, in the ballot table and in the answers buffer: "22 .. comes before the audit, and 2 for a sheet with
-- fewer words than receipts comes right after 22; these two change no sheet, and otherwise the answer is the audit's"
unfoldable pub receipts_audit : Format → (board verdicts roll receipts : List ℕ) → (index ballots answers : ℕ) → Outcome
receipts_audit f ws vs roll rs index ballots answers =
    checked_first
    (bad_receipts unless not (is_bad_receipts f rs)
    ∷ short_table unless leb (receipt_count f rs) answers
    ∷ [])
    (audit f ws vs roll index ballots)

-- the answers for a history: "a word a receipt"
unfoldable pub receipt_answers : Format → List ℕ → History → List ℕ
receipt_answers f rs h = tabulate (λ k. receipt_answer (receipt_at f rs k) h) (receipt_count f rs)

-- the answers buffer: "a word a receipt, the rest zero; any refusal leaves it unchanged"
abbrev pub answers_after : Format → List ℕ → Outcome → List ℕ → List ℕ
answers_after f rs o = buffer_after o (λ h s. filled (length s) (receipt_answers f rs h))
