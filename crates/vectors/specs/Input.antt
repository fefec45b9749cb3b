-- What can be read from standard input: lines, each the bits of digests or a message.
use Rattle.std.specs.Prelude.{ℕ, ◌/◌, ◌%◌, Bool, true, not, cond, ◌&&◌, ◌||◌, List, [], ◌∷◌, eqb, ltb, leb, length}
use Rattle.vectors.specs.Hexadecimal.{all_digits, number}

-- what stands for bits that can't be read: a number of more than three digits
abbrev pub none : ℕ
none = 0x1000

-- the bits that a text of three digits gives: the number that they make in hexadecimal
unfoldable pub bits_of : List ℕ → ℕ
bits_of text = cond (all_digits text) (number text) none

-- whether a hash has digests of the bits
unfoldable pub is_hash : ℕ → Bool
is_hash bits = eqb bits 0x256 || eqb bits 0x384 || eqb bits 0x512

-- whether a text is a message: whole words, at most 256 of them, in hexadecimal
unfoldable pub is_message : List ℕ → Bool
is_message text = eqb (length text % 8) 0 && leb (length text / 8) 256 && all_digits text

-- the bits behind a line: its own where it has three digits, those before it where it is a message for a hash, and otherwise none
unfoldable pub next : ℕ → List ℕ → ℕ
next bits line = cond (eqb (length line) 3) (bits_of line) (cond (is_message line && is_hash bits) bits none)

-- the lines of a text: each ends before a line feed, the last one perhaps at the text's end
unfoldable pub begin : ℕ → List (List ℕ) → List (List ℕ)
begin c [] = (c ∷ []) ∷ []
begin c (line ∷ rest) = (c ∷ line) ∷ rest

unfoldable pub lines : List ℕ → List (List ℕ)
lines [] = []
lines (c ∷ cs) = cond (eqb c 0x0a) ([] ∷ lines cs) (begin c (lines cs))

-- whether all lines can be read, where the bits are as given
unfoldable pub all_read : ℕ → List (List ℕ) → Bool
all_read bits [] = true
all_read bits (line ∷ rest) = not (eqb (next bits line) none) && all_read (next bits line) rest

-- whether a text can be read: all its lines can, and it does not fill the buffer
unfoldable pub is_input : List ℕ → Bool
is_input text = all_read 0 (lines text) && ltb (length text) 0x10000
