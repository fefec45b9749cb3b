-- The text of an entry of a history, a line in two parts, and an item that stands whole on a board. Paper: request (xi). Assumes nothing.
use Rattle.std.specs.Prelude.{ℕ, ◌≤◌, ◌≡◌, Bool, Option, Some, None, List, [], ◌++◌, length, leb, ◌+◌, ◌*◌}
use Rattle.model.specs.Lists.{if◌then◌otherwise◌}
use Rattle.model.specs.Item as model
use Rattle.model.specs.History.{History, Entry, main}
use Rattle.model.specs.Program.{decimal}
use Rattle.model.specs.Audit.{word_limit}
use Rattle.exporting.specs.Json.{bytes_of}
use Rattle.exporting.specs.Export.{hex_words, line_of, export_text}
use Rattle.format.specs.declared.item.Item.{Item}
use Rattle.format.specs.Layout.{item_of}

-- the line of a main item, and nothing of a hidden one
unfoldable pub entry_text : Entry → List ℕ
unfolding if◌then◌otherwise◌
entry_text e = if main e then line_of e.item otherwise []

-- whether the export of a history fits into so many bytes
unfoldable pub fits_in : ℕ → History → Bool
fits_in room h = leb (length (export_text h)) room

-- how many bytes are written into so many: those of the export, or none where it does not fit
unfoldable pub bytes_in : ℕ → History → Option ℕ
unfolding if◌then◌otherwise◌
bytes_in room h = if fits_in room h then Some (length (export_text h)) otherwise None

-- a line up to its numbers, and from there on
unfoldable pub numbers_text : ℕ → ℕ → List ℕ
numbers_text code time = bytes_of "{\"type\":" ++ decimal code ++ bytes_of ",\"time\":" ++ decimal time

unfoldable pub strings_text : model.Item → List ℕ
strings_text i =
    bytes_of ",\"parent\":\"" ++ hex_words i.parent
    ++ bytes_of "\",\"previous\":\"" ++ hex_words i.previous
    ++ bytes_of "\",\"address\":\"" ++ hex_words i.address
    ++ bytes_of "\",\"content\":\"" ++ hex_words i.content
    ++ bytes_of "\"}\n"

-- an item as the code knows it, with its end on the board
pub record Whole (board : List ℕ) (item : Item) : Type 0 where
  pub same : item ≡ item_of board item.place
  pub within : item.end ≤ length board
  pub words : length board ≤ word_limit

-- no line has more bytes: those beside its digits and of its numbers, and the digits of three addresses and of the longest content
abbrev pub line_limit : ℕ
line_limit = 94 + 8 * (3 * 16 + 65535)
