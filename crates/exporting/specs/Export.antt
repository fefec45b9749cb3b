-- The export of a board for spreadsheets: its main items as lines of JSON; what exporting answers, and what its buffer holds.
-- Paper: request (xi). The paper's sheet for the export is the text buffer, of bytes. Assumes nothing.
use Rattle.std.specs.Prelude.{ℕ, zero, suc, ◌/◌, ◌%◌, ◌^◌, List, [], ◌∷◌, ◌++◌, length, get_or, drop, ltb}
use Prim.Native.String.{String}
use Rattle.model.specs.Lists.{if◌then◌otherwise◌}
use Rattle.model.specs.Refusal.{short_table}
use Rattle.model.specs.Item.{Item, code, time}
use Rattle.model.specs.History.{History, main_items}
use Rattle.model.specs.Audit.{Outcome, unread, refused, accepted}
use Rattle.model.specs.Above.{answered, buffer_after}
use Rattle.model.specs.Program.{line}
use Rattle.exporting.specs.Json.{bytes_of, Value, number, string, Member, object_text}

-- ---- hexadecimal: "lower-case hexadecimal strings, eight digits a word"

-- the digits from 0 to 15
unfoldable pub hex_text : List ℕ
hex_text = bytes_of "0123456789abcdef"

abbrev pub hex_digit : ℕ → ℕ
hex_digit d = get_or hex_text d 0

-- the last n digits of a word, the highest first
unfoldable pub hex_digits : ℕ → ℕ → List ℕ
hex_digits zero w = []
hex_digits (suc n) w = hex_digit (w / 16 ^ n % 16) ∷ hex_digits n w

abbrev pub word_digits : ℕ
word_digits = 8

unfoldable pub hex_word : ℕ → List ℕ
hex_word = hex_digits word_digits

unfoldable pub hex_words : List ℕ → List ℕ
hex_words [] = []
hex_words (w ∷ ws) = hex_word w ++ hex_words ws

-- ---- the main list

infix 80 ◌∶◌
abbrev pub ◌∶◌ : String → Value → Member
key ∶ value = record { key = bytes_of key; value = value }

-- "keys type, time, parent, previous, address, content, in that order; type and time are decimal numbers; the others are .. strings"
unfoldable pub members_of : Item → List Member
members_of i =
    "type" ∶ number (code i)
    ∷ "time" ∶ number (time i)
    ∷ "parent" ∶ string (hex_words i.parent)
    ∷ "previous" ∶ string (hex_words i.previous)
    ∷ "address" ∶ string (hex_words i.address)
    ∷ "content" ∶ string (hex_words i.content)
    ∷ []

-- "one object per line", "each line ended by byte 10"
unfoldable pub line_of : Item → List ℕ
line_of i = line (object_text (members_of i))

unfoldable pub lines_of : List Item → List ℕ
lines_of [] = []
lines_of (i ∷ is) = line_of i ++ lines_of is

-- "the main list of an accepted board"
unfoldable pub export_text : History → List ℕ
export_text h = lines_of (main_items h)

-- ---- the entry. The index table and the ballot table are as the audit's outcome leaves them: "the audit, whose sheets stay filled"

-- from the audit's outcome, with so many bytes in the text buffer: "a sheet shorter than the exact output is refused as 2, its item count 0 as always"
unfoldable pub export_outcome : (room : ℕ) → Outcome → Outcome
unfolding if◌then◌otherwise◌
export_outcome room (unread n) = unread n
export_outcome room (refused n k) = refused n k
export_outcome room (accepted h) = if ltb room (length (export_text h)) then unread short_table otherwise accepted h

-- "The answer gives the output's length", beside the report of this outcome: 0 where nothing is written
abbrev pub export_length : Outcome → ℕ
export_length = answered (λ n k. 0) (λ h. length (export_text h))

-- the text buffer: the export, "and bytes past it are unchanged"; "before any byte is written; a refused board writes none"
abbrev pub text_after : Outcome → List ℕ → List ℕ
text_after o = buffer_after o (λ h s. export_text h ++ drop (length (export_text h)) s)
