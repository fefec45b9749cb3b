-- Words of 32 bits, as a slice holds them, and their bytes (FIPS 180-4, 3.1). A message of any of the hashes may come as such words.
use Rattle.std.specs.Prelude.{ℕ, ◌+◌, ◌*◌, ◌/◌, ◌%◌, ◌^◌, ◌<◌, List, [], ◌∷◌}

-- a word is four bytes, the highest first
abbrev pub word_of : ℕ → ℕ → ℕ → ℕ → ℕ
word_of a b c d = a * 2 ^ 24 + b * 2 ^ 16 + c * 2 ^ 8 + d

unfoldable pub to_bytes : List ℕ → List ℕ
to_bytes [] = []
to_bytes (w ∷ ws) = w / 2 ^ 24 % 2 ^ 8 ∷ w / 2 ^ 16 % 2 ^ 8 ∷ w / 2 ^ 8 % 2 ^ 8 ∷ w % 2 ^ 8 ∷ to_bytes ws

unfoldable pub to_words : List ℕ → List ℕ
to_words [] = []
to_words (a ∷ []) = []
to_words (a ∷ b ∷ []) = []
to_words (a ∷ b ∷ c ∷ []) = []
to_words (a ∷ b ∷ c ∷ d ∷ bs) = word_of a b c d ∷ to_words bs

-- every number is below 2 ^ 32
pub data Words : List ℕ → Type 0 where
  none : Words []
  more : {w : ℕ} {ws : List ℕ} → w < 2 ^ 32 → Words ws → Words (w ∷ ws)
