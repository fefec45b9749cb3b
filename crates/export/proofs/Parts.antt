-- Laws of a line put part by part: its parts, where their words stand on the board, and the room that each part has.
-- Paper: request (xi). Assumes nothing.
use Prim.Native.Nat.{ℕ, ◌+◌, ◌*◌, ◌-◌, ◌≤◌}
use native.Mathlib.Omega.{arith}
use mathlib.Core.Path.{◌≡◌, refl, sym, ap, subst, ◌∙◌}
use mathlib.Core.List.{List, [], ◌∷◌, ◌++◌, append_assoc}
use lib.ListN.{length, take, drop, length-append}
use Rattle.model.specs.Lists.{part}
use Rattle.model.specs.Words.{pair}
use Rattle.model.specs.Format.{time_size}
use Rattle.model.specs.Item as model
use Rattle.model.specs.Item.{item_at, item_length}
use Rattle.model.specs.Program.{decimal}
use Rattle.exporting.specs.Json.{bytes_of}
use Rattle.exporting.specs.Export.{word_digits, hex_words, line_of}
use Rattle.exporting.proofs.Hex.{length-hex_words}
use Rattle.exporting.proofs.Text as text
use Rattle.format.specs.declared.item.Item.{Item}
use Rattle.format.specs.Format.{format_of}
use Rattle.format.specs.Layout.{item_of, item_on}
use Rattle.format.proofs.Places.{content-is, parent_is, previous-is, address_is}
use Rattle.text.specs.declared.writer.Writer.{Writer}
use Rattle.text.specs.Put.{Writes}
use Rattle.text.proofs.Placed.{writes_then}
use Rattle.export.specs.Lines.{numbers_text, strings_text, Whole}

-- ---- a text in parts

abbrev pub joined : List (List ℕ) → List ℕ
joined [] = []
joined (a ∷ []) = a
joined (a ∷ b ∷ texts) = a ++ joined (b ∷ texts)

abbrev lengths : List (List ℕ) → ℕ
lengths [] = 0
lengths (a ∷ texts) = length a + lengths texts

length-joined : (texts : List (List ℕ)) → length (joined texts) ≡ lengths texts
length-joined [] = refl
length-joined (a ∷ []) = omega arith
length-joined (a ∷ b ∷ texts) = length-append a (joined (b ∷ texts)) ∙ ap (λ (n : ℕ). length a + n) (length-joined (b ∷ texts))

-- a writer has room for some texts, one behind the other
pub record Room (u : Writer) (texts : List (List ℕ)) : Type 0 where
  pub fits : u.at + lengths texts ≤ length u.out.now

pub room : {u : Writer} {text : List ℕ} {texts : List (List ℕ)} → text ≡ joined texts → u.at + length text ≤ length u.out.now → Room u texts
room {u} {text} {texts} e h = record { fits = omega (arith, ap length e, length-joined texts) }

module _ {u : Writer} {a : List ℕ} {texts : List (List ℕ)} (r : Room u (a ∷ texts)) where
  -- for the first, and behind it for the others
  pub first : u.at + length a ≤ length u.out.now
  first = omega (arith, r.fits)

  pub rest : {v : Writer} → Writes u a v → Room v texts
  rest p = record { fits = omega (arith, r.fits, p.room, p.put.behind) }

-- ---- the members with numbers

abbrev pub number_parts : ℕ → ℕ → List (List ℕ)
number_parts code time = bytes_of "{\"type\":" ∷ decimal code ∷ bytes_of ",\"time\":" ∷ decimal time ∷ []

pub numbers-parts : (code time : ℕ) → numbers_text code time ≡ joined (number_parts code time)
unfolding numbers_text
numbers-parts code time = simp append_assoc

-- ---- the members with strings

-- what stands before their words, and behind the last
abbrev pub parent_key : List ℕ
parent_key = bytes_of ",\"parent\":\""

abbrev pub previous_key : List ℕ
previous_key = bytes_of "\",\"previous\":\""

abbrev pub address_key : List ℕ
address_key = bytes_of "\",\"address\":\""

abbrev pub content_key : List ℕ
content_key = bytes_of "\",\"content\":\""

abbrev closing : List ℕ
closing = bytes_of "\"}\n"

-- a key, and words
abbrev string : List ℕ → List ℕ → List ℕ
string key words = key ++ hex_words words

-- the words of a board from one place to another, as its slice has them
abbrev pub from_to : ℕ → ℕ → List ℕ → List ℕ
from_to from end board = take (end - from) (drop from board)

part-from_to : (from n : ℕ) (board : List ℕ) → part from n board ≡ from_to from (from + n) board
unfolding part
part-from_to from n board = let e : from + n - from ≡ n = omega arith in rw e

-- how many words an address has
abbrev pub width : Item → ℕ
width item = item.end - item.address

abbrev pub string_parts : List ℕ → Item → List (List ℕ)
string_parts board item =
    string parent_key (from_to item.parent (item.parent + width item) board)
    ∷ string previous_key (from_to item.previous (item.previous + width item) board)
    ∷ string address_key (from_to item.address item.end board)
    ∷ string content_key (from_to item.content (item.content + item.head.count) board)
    ∷ closing
    ∷ []

-- what is asked to put a string where there is room
pub string-room : {u : Writer} {texts : List (List ℕ)} (key words : List ℕ) → Room u (string key words ∷ texts)
    → u.at + length key + word_digits * length words ≤ length u.out.now
string-room key words r = omega (arith, first r, length-append key (hex_words words), length-hex_words words)

-- the words of an item are on the board
pub record Stands (board : List ℕ) (item : Item) : Type 0 where
  pub end : item.address ≤ item.end
  pub content : item.content + item.head.count ≤ length board
  pub parent : item.parent + width item ≤ length board
  pub previous : item.previous + width item ≤ length board
  pub time : item.time + time_size ≤ length board
  pub address : item.address + width item ≤ length board

module _ (board : List ℕ) (p : ℕ) where
  width_is : width (item_of board p) ≡ (format_of board).address
  unfolding item_of item_length
  width_is = omega arith

  stands_at : (item_of board p).end ≤ length board → Stands board (item_of board p)
  unfolding item_of item_length
  stands_at h = record {
    end = omega arith;
    content = omega arith;
    parent = omega arith;
    previous = omega arith;
    time = omega arith;
    address = omega arith;
  }

  strings-at : strings_text (item_on board p) ≡ joined (string_parts board (item_of board p))
  unfolding strings_text part
  strings-at =
      simp (append_assoc, ← content-is board p, ← parent_is board p, ← previous-is board p, ← address_is board p, ← part-from_to) (rw width_is)

module _ {board : List ℕ} {item : Item} (w : Whole board item) where
  pub stands : Stands board item
  stands = subst (λ (i : Item). i.end ≤ length board → Stands board i) (sym w.same) (stands_at board item.place) w.within

  pub width-board : width item ≡ (format_of board).address
  width-board = ap width w.same ∙ width_is board item.place

  pub strings-parts : strings_text (item_on board item.place) ≡ joined (string_parts board item)
  strings-parts = strings-at board item.place ∙ ap (λ (i : Item). joined (string_parts board i)) (sym w.same)

  pub put-strings : {u u₁ u₂ u₃ u₄ u₅ : Writer}
      → Writes u (string parent_key (from_to item.parent (item.parent + width item) board)) u₁
      → Writes u₁ (string previous_key (from_to item.previous (item.previous + width item) board)) u₂
      → Writes u₂ (string address_key (from_to item.address item.end board)) u₃
      → Writes u₃ (string content_key (from_to item.content (item.content + item.head.count) board)) u₄
      → Writes u₄ closing u₅ → Writes u (strings_text (item_on board item.place)) u₅
  put-strings p p₁ p₂ p₃ p₄ = rw strings-parts (writes_then p (writes_then p₁ (writes_then p₂ (writes_then p₃ p₄))))

-- ---- a line

line-texts : (i : model.Item) → line_of i ≡ numbers_text (model.code i) (model.time i) ++ strings_text i
unfolding numbers_text strings_text
line-texts i = text.line-parts i ∙ simp append_assoc

-- its numbers, with the time as the two words at its place
abbrev numbers_at : List ℕ → Item → List ℕ
numbers_at board item = numbers_text item.head.code (pair (part item.time time_size board))

numbers-at : (board : List ℕ) (p : ℕ)
    → numbers_text (model.code (item_on board p)) (model.time (item_on board p)) ≡ numbers_at board (item_of board p)
unfolding item_of item_at
numbers-at board p = refl

pub line-parts : {board : List ℕ} {item : Item} → Whole board item → {time : ℕ} → time ≡ pair (part item.time time_size board)
    → line_of (item_on board item.place) ≡ joined (numbers_text item.head.code time ∷ strings_text (item_on board item.place) ∷ [])
line-parts {board} {item} w e =
    line-texts (item_on board item.place)
    ∙ rw (numbers-at board item.place, ← w.same, ← e)
