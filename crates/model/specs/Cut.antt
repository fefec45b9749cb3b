-- A board cut behind one of its items: "A cut is the items up to there in file order, a closing word with their number and nine verdict words
-- for each". Paper: requests (ii), (vi). Assumes nothing.
use Rattle.std.specs.Prelude.{ℕ, ◌*◌, List, [], ◌∷◌, ◌++◌, take}
use Rattle.model.specs.Words.{closing_word}
use Rattle.model.specs.Format.{Format, verdict_size}
use Rattle.model.specs.History.{place_of}

-- the first k items of a board, and a closing word
unfoldable pub cut_board : Format → List ℕ → ℕ → List ℕ
cut_board f ws k = take (place_of f ws k) ws ++ (closing_word k ∷ [])

-- their verdict words
abbrev pub cut_verdicts : List ℕ → ℕ → List ℕ
cut_verdicts vs k = take (verdict_size * k) vs
