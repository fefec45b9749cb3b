-- As much of JSON as an export has: an object whose members have numbers and strings for their values, as the bytes of its text.
-- Standard: RFC 8259, sections 4 (objects), 6 (numbers) and 7 (strings). Paper: request (xi). Assumes nothing.
use Rattle.std.specs.Prelude.{ℕ, List, [], ◌∷◌, ◌++◌}
use Prim.Native.Char.{code}
use Prim.Native.String.{String}
use Prim.Native.String as text
use Rattle.model.specs.Program.{decimal}

-- the bytes of a text whose characters are all of ASCII
unfoldable pub bytes_of : String → List ℕ
bytes_of text.[] = []
bytes_of (text.◌∷◌ c s) = code c ∷ bytes_of s

-- `"`, which opens and closes a string
abbrev pub quote : ℕ
quote = 34

-- a value: a number, or a string with no `"`, no `\` and no control character, so that its bytes stand as they are
pub data Value : Type 0 where
  number : ℕ → Value
  string : List ℕ → Value

pub record Member : Type 0 where
  pub key : List ℕ
  pub value : Value

abbrev pub quoted : List ℕ → List ℕ
quoted s = quote ∷ s ++ (quote ∷ [])

-- "decimal numbers": no zero in front, no sign, no fraction
unfoldable pub value_text : Value → List ℕ
value_text (number n) = decimal n
value_text (string s) = quoted s

-- section 4: "A single colon comes after each name, separating the name from the value"; "no spaces"
unfoldable pub member_text : Member → List ℕ
member_text m = quoted m.key ++ bytes_of ":" ++ value_text m.value

-- "A single comma separates a value from a following name."
unfoldable pub members_text : List Member → List ℕ
members_text [] = []
members_text (m ∷ []) = member_text m
members_text (m ∷ n ∷ ms) = member_text m ++ bytes_of "," ++ members_text (n ∷ ms)

-- "a pair of curly brackets surrounding zero or more name/value pairs"
unfoldable pub object_text : List Member → List ℕ
object_text ms = bytes_of "{" ++ members_text ms ++ bytes_of "}"
