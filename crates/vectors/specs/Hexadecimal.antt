-- Numbers in hexadecimal, as text.
use Rattle.std.specs.Prelude.{ℕ, zero, suc, ◌+◌, ◌*◌, Bool, true, ◌&&◌, cond, Option, Some, None, List, [], ◌∷◌, ◌++◌, ltb, take, drop}
use Rattle.vectors.specs.Scan.{index_of}

-- the digits, 0 to 9 and a to f
unfoldable pub digits : List ℕ
digits =
    0x30 ∷ 0x31 ∷ 0x32 ∷ 0x33 ∷ 0x34 ∷ 0x35 ∷ 0x36 ∷ 0x37 ∷ 0x38 ∷ 0x39 ∷ 0x61 ∷ 0x62 ∷ 0x63 ∷ 0x64 ∷ 0x65 ∷ 0x66 ∷ []

-- the value of a digit, 16 of another byte
unfoldable pub digit : ℕ → ℕ
digit c = index_of c digits

-- the same, None of another byte
unfoldable pub digit_value : ℕ → Option ℕ
digit_value c = cond (ltb (digit c) 16) (Some (digit c)) None

-- whether a text is of digits alone
unfoldable pub all_digits : List ℕ → Bool
all_digits [] = true
all_digits (c ∷ cs) = ltb (digit c) 16 && all_digits cs

-- the number whose digits are those of n and then the text
unfoldable pub number_from : ℕ → List ℕ → ℕ
number_from n [] = n
number_from n (c ∷ cs) = number_from (n * 16 + digit c) cs

abbrev pub number : List ℕ → ℕ
number text = number_from 0 text

-- the first n words of a text, eight digits to a word
unfoldable pub words_of : List ℕ → ℕ → List ℕ
words_of text zero = []
words_of text (suc n) = words_of text n ++ (number (take 8 (drop (n * 8) text)) ∷ [])
