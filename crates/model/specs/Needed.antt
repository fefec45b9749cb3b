-- What a counted ballot needs on the board: five items of its own, and five configuration items before the first session.
-- Paper: request (viii). Assumes nothing.
use Rattle.std.specs.Prelude.{ℕ, ◌≡◌, List, [], ◌∷◌, map}
use Rattle.model.specs.Codes.{genesis_type, contest_type, threshold_type, authorizer_type, round_type, session_type, voter_commitment_type, server_commitment_type, ballot_type, cast_type}
use Rattle.model.specs.Item.{code}
use Rattle.model.specs.History.{History, entry, item_no, typed, first}
use Rattle.model.specs.Counted.{Vote, LastCast}

-- "five items of its own (session, two commitments, ballot, cast)", by their numbers: the cast, and from parent to parent those above it
unfoldable pub own_items : History → ℕ → List ℕ
own_items h cast =
    let ballot = (entry h cast).parent in
    let server_commitment = (entry h ballot).parent in
    let voter_commitment = (entry h server_commitment).parent in
    let session = (entry h voter_commitment).parent in
    session ∷ voter_commitment ∷ server_commitment ∷ ballot ∷ cast ∷ []

abbrev pub own_types : List ℕ
own_types = session_type ∷ voter_commitment_type ∷ server_commitment_type ∷ ballot_type ∷ cast_type ∷ []

-- "five configuration items must precede the first session", of these types
abbrev pub config_types : List ℕ
config_types = genesis_type ∷ contest_type ∷ threshold_type ∷ authorizer_type ∷ round_type ∷ []

-- the numbers of the first items of these types, 0 where there is none
abbrev pub config_items : History → List ℕ
config_items h = map (λ c. first (typed c) h) config_types

abbrev pub types_of : History → List ℕ → List ℕ
types_of h = map (λ k. code (item_no h k))

-- the vote x is that of the cast c, which stands under items of the types that it needs
pub record Needs (h : History) (x : Vote) (c : ℕ) : Type 0 where
  pub cast : LastCast h x c
  pub types : types_of h (own_items h c) ≡ own_types
