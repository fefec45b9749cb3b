-- Check 13 for voting. Paper: "Content". Assumes nothing.
use Rattle.std.specs.Prelude.{ℕ, ◌≡◌, Bool, ◌&&◌, List}
use Rattle.model.specs.Codes.{ballot_type}
use Rattle.model.specs.Format.{Format}
use Rattle.model.specs.Item.{Item}
use Rattle.model.specs.History.{History, item_no, session_number, session_contests}
use Rattle.model.specs.Content.{session_ok, commitment_ok, ballot_ok}
use Rattle.format.specs.Format.{format_of}
use Rattle.index.specs.Kept.{before, item_after}
use Rattle.index.specs.declared.Known.{Known}
use Rattle.state.specs.declared.State.{State}
use Rattle.state.specs.Stands.{AtItem}

-- the rules of session, commitments and ballot
abbrev pub voting_ok : Format → History → Item → Bool
voting_ok f h i = session_ok h i && commitment_ok f i && ballot_ok f h i

-- a check of a ballot, on a board whose sets have so many words
pub record AtBallot (board index : List ℕ) (s : State) (c : Known) (sets : ℕ) : Type 0 where
  pub at : AtItem board index s c
  pub type : c.item.head.code ≡ ballot_type
  pub width : sets ≡ (format_of board).sets

-- the contests of its session
abbrev pub own_contests : List ℕ → State → List ℕ
own_contests board s =
    let h = before board s.items in
    session_contests (item_no h (session_number h (item_after board s.items)))
