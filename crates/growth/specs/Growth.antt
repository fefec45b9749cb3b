-- One more item: a board, the same board with "one more main item just before its closing word, whose number goes up by one", and, where both are
-- accepted, what the audit answers and writes for the second from what it answered and wrote for the first. Paper: request (xiii). Assumes nothing.
use Rattle.std.specs.Prelude.{ℕ, zero, suc, ◌+◌, ◌-◌, ◌*◌, ◌≡◌, Bool, not, ◌&&◌, List, [], ◌∷◌, ◌++◌, length, set, take, eqb}
use Rattle.std.proofs.lemmas.List.Edits.{sets}
use Rattle.model.specs.Lists.{if◌then◌otherwise◌, has}
use Rattle.model.specs.Words.{same_words, closing_word}
use Rattle.model.specs.Codes.{session_type, cast_type}
use Rattle.model.specs.Format.{Format, longest_address}
use Rattle.model.specs.Item.{Item, item_at, code, is_main}
use Rattle.model.specs.History.{cast_or_spoil, session_voter, session_weight}
use Rattle.model.specs.Counted.{Vote, voters, without}
use Rattle.model.specs.Audit.{Outcome, index_row, ballot_row}
use Rattle.model.specs.Report.{Report, filled, report_of, place_column, session_column, mains_column, closer_column, row_place, row_word, no_number, ballot_rows, index_after, ballots_after}

-- the board ws, and ws': the same words, more words, and a closing word whose number is one more. Where both are accepted, the words are one item's
pub record OneMore (ws ws' : List ℕ) : Type 0 where
  pub words : List ℕ
  pub number : ℕ
  pub more : List ℕ
  pub closed : ws ≡ words ++ (closing_word number ∷ [])
  pub closed_later : ws' ≡ words ++ (more ++ (closing_word (number + 1) ∷ []))

-- what the audit answers and writes: the report, the index table and the ballot table
pub record Audited : Type 0 where
  pub report : Report
  pub index : List ℕ
  pub ballots : List ℕ

-- for an outcome and what the tables held before
abbrev pub audited : Format → Outcome → (index ballots : List ℕ) → Audited
audited f o index ballots = record { report = report_of f o; index = index_after o index; ballots = ballots_after o ballots }

-- the rows of a ballot table, read back from its words: what they say of a vote
unfoldable pub rows_read : List ℕ → List Vote
rows_read (b ∷ v ∷ w ∷ rows) = record { ballot = b; voter = v; weight = w; content = [] } ∷ rows_read rows
rows_read (b ∷ v ∷ []) = []
rows_read (b ∷ []) = []
rows_read [] = []

-- ---- one step

-- the first of n numbers from k on that passes, 0 where none does
unfoldable pub first_of : (ℕ → Bool) → ℕ → ℕ → ℕ
unfolding if◌then◌otherwise◌
first_of p k zero = 0
first_of p k (suc n) = if p k then k otherwise first_of p (suc k) n

-- the item of row k of an index table
abbrev pub row_item : Format → (board index : List ℕ) → ℕ → Item
row_item f ws index k = item_at f ws (row_word index k place_column)

-- from the board ws, what was answered and written for it, and the main item i
module _ (f : Format) (ws : List ℕ) (a : Audited) (i : Item) where
  -- the new item's number
  abbrev pub new_number : ℕ
  new_number = suc a.report.items

  -- the number of its parent: "The first earlier item with that address, sought among main items"
  unfoldable pub new_parent : ℕ
  new_parent =
      let item = row_item f ws a.index in
      first_of (λ k. is_main (item k) && same_words (item k).address i.parent) 1 a.report.items

  -- the word for its session: its own number if it is one, and else as in its parent's row
  unfoldable pub new_session : ℕ
  new_session = if eqb (code i) session_type then new_number otherwise row_word a.index new_parent session_column

  -- its row: its head stands where the closing word stood, all main items are before it, and nothing closed it
  abbrev pub new_row : List ℕ
  new_row = (length ws - 1) ∷ new_parent ∷ new_session ∷ a.report.mains ∷ no_number ∷ []

  -- "unchanged, save the fifth word of the ballot that a cast or spoil closes"
  unfoldable pub closed_index : List ℕ
  closed_index = if cast_or_spoil (code i) then set a.index (row_place new_parent closer_column) new_number otherwise a.index

  -- what a cast says: its ballot's main number is one more than the main items before that, voter and weight are its session's
  unfoldable pub new_vote : Vote
  new_vote = record {
    ballot = row_word a.index new_parent mains_column + 1;
    voter = session_voter (row_item f ws a.index new_session);
    weight = session_weight (row_item f ws a.index new_session);
    content = [];
  }

  -- the ballot rows in use
  abbrev pub votes_before : List Vote
  votes_before = rows_read (take (ballot_row * a.report.ballots) a.ballots)

  -- "if it is a cast of voter v, only v's row goes and a row for v is put last"
  unfoldable pub new_ballots : List ℕ
  new_ballots =
      if eqb (code i) cast_type then filled (length a.ballots) (ballot_rows (without new_vote.voter votes_before ++ (new_vote ∷ [])))
      otherwise a.ballots

  -- a cast of a voter that had no row: this alone adds a ballot, and weight
  unfoldable pub is_new_voter : Bool
  is_new_voter = eqb (code i) cast_type && not (has new_vote.voter (voters votes_before))

  -- what the audit answers and writes for the longer board. "the total weight is the same where v had a row, and else grows by v's weight"
  unfoldable pub follow : Audited
  follow = record {
    report = record {
      number = 0;
      items = new_number;
      mains = suc a.report.mains;
      end = filled longest_address i.address;
      ballots = if is_new_voter then suc a.report.ballots otherwise a.report.ballots;
      weight = if is_new_voter then a.report.weight + new_vote.weight otherwise a.report.weight;
    };
    index = sets closed_index (index_row * a.report.items) new_row;
    ballots = new_ballots;
  }
