-- The roll: which voter may vote, and with which weight. Checks 20 and 21.
-- Paper: request (i), "Voters who are on the roll". Assumes nothing.
use Rattle.std.specs.Prelude.{ℕ, ◌+◌, ◌*◌, ◌%◌, ◌<◌, ◌≡◌, Bool, true, not, ◌&&◌, ◌||◌, List, [], ◌∷◌, map, length, get_or, T, eqb, ltb}
use Rattle.model.specs.Lists.{◌⇒◌, any}
use Rattle.model.specs.Codes.{session_type}
use Rattle.model.specs.Item.{Item, code}
use Rattle.model.specs.History.{session_voter, session_weight}

-- a pair of the roll
pub record Elector : Type 0 where
  pub voter : ℕ
  pub weight : ℕ

-- words of a pair
abbrev pub roll_row : ℕ
roll_row = 2

-- "at most 2,048 pairs"
abbrev pub roll_limit : ℕ
roll_limit = 2048

-- "pairs of voter number and weight"
unfoldable pub electors : List ℕ → List Elector
electors (v ∷ w ∷ roll) = record { voter = v; weight = w } ∷ electors roll
electors (v ∷ []) = []
electors [] = []

-- "numbers rising strictly": each is less than the next
unfoldable pub rising : List ℕ → Bool
rising (m ∷ n ∷ ns) = ltb m n && rising (n ∷ ns)
rising (n ∷ []) = true
rising [] = true

abbrev pub voter_numbers : List ℕ → List ℕ
voter_numbers roll = map (λ e. e.voter) (electors roll)

-- 20 bad roll: "odd word count, too many pairs, or not rising"
unfoldable pub is_bad_roll : List ℕ → Bool
is_bad_roll roll =
    not (eqb (length roll % roll_row) 0)
    || ltb roll_limit (length (electors roll))
    || not (rising (voter_numbers roll))

abbrev pub GoodRoll : List ℕ → Type 0
GoodRoll roll = T (not (is_bad_roll roll))

-- Who may vote: whether that voter may, with that weight. The rules of an item ask no more of a roll than this, so what is shown of items
-- that passed is shown for any roll.
abbrev pub Eligibility : Type 0
Eligibility = ℕ → ℕ → Bool

-- the pair is that voter with that weight
abbrev pub names : ℕ → ℕ → Elector → Bool
names voter weight e = eqb e.voter voter && eqb e.weight weight

-- "a voter of the roll with that voter's weight"
unfoldable pub on_roll : List ℕ → Eligibility
on_roll roll voter weight = any (names voter weight) (electors roll)

-- 21 not on the roll, "for sessions only": "A session must name a voter of the roll with that voter's weight."
unfoldable pub on_roll_ok : Eligibility → Item → Bool
on_roll_ok eligible i = eqb (code i) session_type ⇒ eligible (session_voter i) (session_weight i)

-- ---- for the claims

-- pair p of the roll's words, counted from 0, is that voter with that weight
abbrev pub PairAt : List ℕ → ℕ → ℕ → ℕ → Type 0
PairAt roll voter weight p = (2 * p + 1 < length roll) × (get_or roll (2 * p) 0 ≡ voter) × (get_or roll (2 * p + 1) 0 ≡ weight)

-- the weight of all pairs
unfoldable pub roll_weight : List Elector → ℕ
roll_weight [] = 0
roll_weight (e ∷ es) = e.weight + roll_weight es
