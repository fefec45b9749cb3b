-- What a reader makes of an export, line by line, and of a line the item that it tells of, its signature left aside.
-- Paper: request (xi) ("Two accepted boards with the same export have the same main items"). Assumes nothing.
use Rattle.std.specs.Prelude.{ℕ, zero, suc, ◌+◌, ◌-◌, ◌*◌, ◌/◌, ◌%◌, ◌^◌, ◌<◌, Bool, not, List, [], ◌∷◌, ◌++◌, length, get_or, drop, eqb, ltb}
use Rattle.model.specs.Lists.{if◌then◌otherwise◌}
use Rattle.model.specs.Words.{main_kind, between}
use Rattle.model.specs.Item.{Item}
use Rattle.model.specs.Program.{newline, digit, value_from}
use Rattle.exporting.specs.Json.{quote, Value, number, string, Member}

-- "32-bit words"
abbrev pub AreWords : List ℕ → Type 0
AreWords ws = (k : ℕ) → get_or ws k 0 < 2 ^ 32

-- ---- lines

-- the lines of a text of which the bytes `begun` of a line have been read; what no byte 10 ends is no line
unfoldable pub lines_from : (begun : List ℕ) → List ℕ → List (List ℕ)
unfolding if◌then◌otherwise◌
lines_from begun [] = []
lines_from begun (b ∷ bs) = if eqb b newline then begun ∷ lines_from [] bs otherwise lines_from (begun ++ (b ∷ [])) bs

abbrev pub lines_in : List ℕ → List (List ℕ)
lines_in = lines_from []

-- ---- an object of so many members

-- the bytes up to the first that fails a test, and those from there on
unfoldable pub up_to : (ℕ → Bool) → List ℕ → List ℕ
unfolding if◌then◌otherwise◌
up_to p [] = []
up_to p (b ∷ bs) = if p b then b ∷ up_to p bs otherwise []

unfoldable pub behind : (ℕ → Bool) → List ℕ → List ℕ
unfolding if◌then◌otherwise◌
behind p [] = []
behind p (b ∷ bs) = if p b then behind p bs otherwise b ∷ bs

abbrev pub is_digit : ℕ → Bool
is_digit = between (digit 0) (digit 9)

abbrev pub in_string : ℕ → Bool
in_string b = not (eqb b quote)

-- a value, and the bytes from its end on
unfoldable pub read_value : List ℕ → Value
unfolding if◌then◌otherwise◌
read_value bs = if eqb (get_or bs 0 0) quote then string (up_to in_string (drop 1 bs)) otherwise number (value_from 0 (up_to is_digit bs))

unfoldable pub behind_value : List ℕ → List ℕ
unfolding if◌then◌otherwise◌
behind_value bs = if eqb (get_or bs 0 0) quote then drop 1 (behind in_string (drop 1 bs)) otherwise behind is_digit bs

-- what follows the quote of a key: it, and behind its closing quote and the colon the value
abbrev value_in : List ℕ → List ℕ
value_in bs = drop 2 (behind in_string bs)

-- n members from the bytes behind a bracket or a comma
unfoldable pub read_members : ℕ → List ℕ → List Member
read_members zero bs = []
read_members (suc n) bs =
    let here = drop 1 bs in
    record { key = up_to in_string here; value = read_value (value_in here) } ∷ read_members n (drop 1 (behind_value (value_in here)))

-- of the object that a line is
abbrev pub members_in : List ℕ → List Member
members_in bs = read_members 6 (drop 1 bs)

-- ---- the item

-- the value of a hexadecimal digit
unfoldable pub hex_value : ℕ → ℕ
hex_value b = if ltb (digit 9) b then b - 87 otherwise b - digit 0

-- words from eight digits each
unfoldable pub words_in : List ℕ → List ℕ
words_in (a ∷ b ∷ c ∷ d ∷ e ∷ f ∷ g ∷ h ∷ rest) =
    (hex_value a * 16 ^ 7 + hex_value b * 16 ^ 6 + hex_value c * 16 ^ 5 + hex_value d * 16 ^ 4
    + hex_value e * 16 ^ 3 + hex_value f * 16 ^ 2 + hex_value g * 16 + hex_value h)
    ∷ words_in rest
words_in (a ∷ b ∷ c ∷ d ∷ e ∷ f ∷ g ∷ []) = []
words_in (a ∷ b ∷ c ∷ d ∷ e ∷ f ∷ []) = []
words_in (a ∷ b ∷ c ∷ d ∷ e ∷ []) = []
words_in (a ∷ b ∷ c ∷ d ∷ []) = []
words_in (a ∷ b ∷ c ∷ []) = []
words_in (a ∷ b ∷ []) = []
words_in (a ∷ []) = []
words_in [] = []

abbrev no_member : Member
no_member = record { key = []; value = number 0 }

-- the number, and the words, that a value stands for
unfoldable pub number_in : Value → ℕ
number_in (number n) = n
number_in (string s) = 0

unfoldable pub words_of : Value → List ℕ
words_of (number n) = []
words_of (string s) = words_in s

-- of member k, from 0 on
abbrev value_no : ℕ → List Member → Value
value_no k ms = (get_or ms k no_member).value

-- the item that six members tell of: a main item, whose head has its type and the number of its content words
unfoldable pub item_from : List Member → Item
item_from ms =
    let time = number_in (value_no 1 ms) in
    let content = words_of (value_no 5 ms) in
    record {
      head = main_kind * 2 ^ 28 + number_in (value_no 0 ms) * 2 ^ 16 + length content;
      content = content;
      parent = words_of (value_no 2 ms);
      previous = words_of (value_no 3 ms);
      stamp = time / 2 ^ 32 ∷ time % 2 ^ 32 ∷ [];
      signature = [];
      address = words_of (value_no 4 ms);
    }

-- of a line
abbrev pub decode : List ℕ → Item
decode bs = item_from (members_in bs)
