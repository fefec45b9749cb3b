-- What is claimed of the export of a board, in the order of the request. Each claim is proved on the page that its proof names.
-- Nothing is assumed of the hashes, as on the page `Demands` of model, which has the claims of decimal numbers (`decimal-value`, `decimal-lead`) and
-- all others.
use Prim.Native.Nat.{ℕ, ◌+◌, ◌*◌, ◌≤◌, ◌<◌}
use mathlib.Core.Path.{◌≡◌}
use mathlib.Core.Logic.{◌↔◌}
use mathlib.Core.List.{List, map}
use lib.ListN.{length, get_or, take, drop}
use lib.Dec.{T}
use Rattle.model.specs.Lists.{count, has}
use Rattle.model.specs.Format.{Format, Hashes}
use Rattle.model.specs.Traits.{format_of}
use Rattle.model.specs.Item.{Item, code, time, is_main, unsigned}
use Rattle.model.specs.History.{History, main, main_items}
use Rattle.model.specs.Audit.{Outcome, accepted, audit}
use Rattle.model.specs.Report.{report_of, Refuses}
use Rattle.model.specs.Sound.{Shaped}
use Rattle.model.specs.Compare.{same}
use Rattle.model.specs.Comparing.{compared, comparing_answer}
use Rattle.model.specs.Program.{decimal}
use Rattle.exporting.specs.Json.{object_text}
use Rattle.exporting.specs.Export.{hex_text, hex_words, members_of, line_of, export_text, export_outcome, export_length, text_after}
use Rattle.exporting.specs.Reading.{AreWords, lines_in, members_in, words_in, decode}
use Rattle.exporting.proofs.Hex
use Rattle.exporting.proofs.Text
use Rattle.exporting.proofs.Reading
use Rattle.exporting.proofs.Same
use Rattle.exporting.proofs.Entry

-- ---- request (xi): the text

-- "one object per line", "each line ended by byte 10": as many lines as the board has main items, each the object of its item
pub export-lines : (h : History) → lines_in (export_text h) ≡ map (λ i. object_text (members_of i)) (main_items h)
export-lines = Reading.export-lines

-- a reader finds in each line the six members, "in that order"
pub object-read : (i : Item) → members_in (object_text (members_of i)) ≡ members_of i
object-read = Reading.object-read

-- "no spaces": every byte of an object is a printable one of ASCII, and no space. No letter is a capital one, and none is `\`, which would begin
-- an escape
pub object-bytes : (i : Item) (k : ℕ) → k < length (object_text (members_of i)) → let b = get_or (object_text (members_of i)) k 0 in
    (33 ≤ b) × (b ≤ 126) × (b ≡ 92 → ⊥) × (65 ≤ b → b ≤ 90 → ⊥)
object-bytes = Text.object-bytes

-- "lower-case hexadecimal strings, eight digits a word"
pub hex-length : (ws : List ℕ) → length (hex_words ws) ≡ 8 * length ws
hex-length = Hex.length-hex_words

pub hex-bytes : (ws : List ℕ) (k : ℕ) → k < length (hex_words ws) → T (has (get_or (hex_words ws) k 0) hex_text)
hex-bytes = Hex.hex-bytes

-- words of 32 bits are read back from them
pub words-read : (ws : List ℕ) → AreWords ws → words_in (hex_words ws) ≡ ws
words-read = Hex.words-read

-- the length of a line, from the numbers and the words of its item
pub line-length : (i : Item) → length (line_of i) ≡ 70 + length (decimal (code i)) + length (decimal (time i))
    + 8 * (length i.parent + length i.previous + length i.address + length i.content)
line-length = Text.line-length

-- ---- what an export tells

-- a line reads back as its item, the signature left aside: a main item whose parts have their lengths and are words of 32 bits
pub line-decoded : (f : Format) (i : Item) → Shaped f i → T (is_main i) → AreWords i.content → AreWords i.parent → AreWords i.previous
    → AreWords i.stamp → AreWords i.address → decode (object_text (members_of i)) ≡ unsigned i
line-decoded = Same.line-decoded

-- an accepted board of 32-bit words: its main items are read back from its export
pub export-read : (s : Hashes) (ws vs roll : List ℕ) (index ballots : ℕ) (h : History) → audit (format_of s ws) ws vs roll index ballots ≡ accepted h
    → AreWords ws → map decode (lines_in (export_text h)) ≡ map unsigned (main_items h)
export-read = Same.export-read

-- and its export has fewer than eight bytes for each word of the board,
pub export-size : (s : Hashes) (ws vs roll : List ℕ) (index ballots : ℕ) (h : History) → audit (format_of s ws) ws vs roll index ballots ≡ accepted h
    → AreWords ws → length (export_text h) < 8 * length ws
export-size = Same.export-size

-- so that a buffer of 8 * 262,144 bytes is long enough for every board
pub export-fits : (s : Hashes) (ws vs roll : List ℕ) (index ballots : ℕ) (h : History) → audit (format_of s ws) ws vs roll index ballots ≡ accepted h
    → AreWords ws → length (export_text h) < 2097152
export-fits = Same.export-fits

module _ (s : Hashes) (ws vs roll : List ℕ) (index ballots : ℕ) (g : History) (a : audit (format_of s ws) ws vs roll index ballots ≡ accepted g)
    (ws' vs' roll' : List ℕ) (index' ballots' : ℕ) (h : History) (b : audit (format_of s ws') ws' vs' roll' index' ballots' ≡ accepted h)
    (w : AreWords ws) (w' : AreWords ws') where
  -- "Two accepted boards with the same export have the same main items, signatures left aside", and only such boards: whatever their curves, the
  -- widths of their sets, their hidden tracks, verdicts and rolls
  pub same-export : (export_text g ≡ export_text h) ↔ (map unsigned (main_items g) ≡ map unsigned (main_items h))
  same-export = Same.same-export s ws vs roll index ballots g a ws' vs' roll' index' ballots' h b w w'

  -- so the export determines the format, too
  pub same_format : export_text g ≡ export_text h → format_of s ws ≡ format_of s ws'
  same_format = Same.same_format s ws vs roll index ballots g a ws' vs' roll' index' ballots' h b w w'

  -- and comparing the two at the last main item of the later one says `same` exactly where the exports are the same
  pub same-compared : (export_text g ≡ export_text h) ↔ (comparing_answer (accepted g) (accepted h) (count main h) ≡ compared same)
  same-compared = Same.same-compared s ws vs roll index ballots g a ws' vs' roll' index' ballots' h b w w'

-- ---- the entry: its answer is the report and the length by `exporting`; the index table and the ballot table are as `audited` leaves them

module _ (f : Format) (ws vs roll : List ℕ) (index ballots : ℕ) (text : List ℕ) where
  abbrev audited : Outcome
  audited = audit f ws vs roll index ballots

  abbrev exporting : Outcome
  exporting = export_outcome (length text) audited

  -- a board that the audit refuses is refused so, also with no room at all
  pub export-refused : (n k : ℕ) → Refuses f audited n k → report_of f exporting ≡ report_of f audited
  export-refused = Entry.export-refused f ws vs roll index ballots text

  -- any refusal, the audit's and the 2 of a short buffer, writes no byte, and its length is 0
  pub export-none : (n k : ℕ) → Refuses f exporting n k → (text_after exporting text ≡ text) × (export_length exporting ≡ 0)
  export-none = Entry.export-none f ws vs roll index ballots text

  module _ (h : History) (a : audited ≡ accepted h) where
    -- "a sheet shorter than the exact output is refused as 2, its item count 0 as always", and only such a one: else the board is accepted
    pub export-short : Refuses f exporting 2 0 ↔ (length text < length (export_text h))
    export-short = Entry.export-short f ws vs roll index ballots text h a

    pub export-accepted : (exporting ≡ accepted h) ↔ (length (export_text h) ≤ length text)
    export-accepted = Entry.export-accepted f ws vs roll index ballots text h a

    -- "The answer gives the output's length, and bytes past it are unchanged"
    pub export-written : exporting ≡ accepted h → let n = export_length exporting in let after = text_after exporting text in
        (n ≡ length (export_text h)) × (take n after ≡ export_text h) × (drop n after ≡ drop n text) × (length after ≡ length text)
    export-written = Entry.export-written f ws vs roll index ballots text h a

-- it rests on the main items alone: other hidden tracks, and other signatures, do not change it
pub export-alone : (g h : History) → map unsigned (main_items g) ≡ map unsigned (main_items h) → export_text g ≡ export_text h
export-alone = Text.export-alone
