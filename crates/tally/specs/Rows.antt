-- A ballot table that holds the rows of some votes, and what one of its rows becomes where a voter's rows are dropped.
-- Paper: "Refusals and their order" (ballot rows). Assumes nothing.
use Rattle.std.specs.Prelude.{◌≡◌, List, [], ◌∷◌, ℕ, ◌+◌, ◌*◌, length, get_or, eqb}
use Rattle.std.proofs.lemmas.List.Edits.{sets}
use Rattle.model.specs.Lists.{if◌then◌otherwise◌}
use Rattle.model.specs.Counted.{Vote}
use Rattle.model.specs.Audit.{ballot_row}
use Rattle.model.specs.Report.{ballot_rows, filled}

-- the table holds the n rows of the votes xs, and zeros
pub record HoldsRows (ballots : List ℕ) (n : ℕ) (xs : List Vote) : Type 0 where
  pub rows : ballots ≡ filled (length ballots) (ballot_rows xs)
  pub number : n ≡ length xs

-- the row of a vote
abbrev pub row_words : Vote → List ℕ
row_words v = v.ballot ∷ v.voter ∷ v.weight ∷ []

-- word c of row k
abbrev pub row_word : List ℕ → ℕ → ℕ → ℕ
row_word ballots k c = get_or ballots (ballot_row * k + c) 0

abbrev pub cleared : List ℕ → ℕ → List ℕ
cleared ballots k = sets ballots (ballot_row * k) (0 ∷ 0 ∷ 0 ∷ [])

-- row k is cleared, and unless it is the voter's put behind the first `kept` rows
unfoldable pub row_kept : List ℕ → ℕ → ℕ → ℕ → List ℕ
unfolding if◌then◌otherwise◌
row_kept ballots kept k voter =
    if eqb (row_word ballots k 1) voter then cleared ballots k
    otherwise sets (cleared ballots k) (ballot_row * kept) (row_word ballots k 0 ∷ row_word ballots k 1 ∷ row_word ballots k 2 ∷ [])

-- how many rows are kept then
unfoldable pub number_kept : List ℕ → ℕ → ℕ → ℕ → ℕ
unfolding if◌then◌otherwise◌
number_kept ballots kept k voter = if eqb (row_word ballots k 1) voter then kept otherwise kept + 1
