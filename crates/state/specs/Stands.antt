-- What the audit's running state stands for: what the rules ask of the items so far. Each field is what a definition gives for the first
-- items of the board, so the state is determined by the board and their number.
-- Paper: "Item types" (latest config, keys), "Phases", "Content". Assumes nothing.
use Rattle.std.specs.Prelude.{◌≡◌, List, ℕ, ◌<◌, ◌≤◌, length, get_or, T, Some}
use Rattle.model.specs.Lists.{count}
use Rattle.model.specs.Words.{kind_of, code_of, count_of}
use Rattle.model.specs.Codes.{threshold_type, authorizer_type, intent_type}
use Rattle.model.specs.Types as types
use Rattle.model.specs.History as history
use Rattle.model.specs.History.{first, main, typed, place_of, entry_of}
use Rattle.model.specs.Counted.{counted}
use Rattle.model.specs.Audit.{item_limit}
use Rattle.format.specs.Format.{format_of}
use Rattle.format.specs.Table.{row_of}
use Rattle.format.specs.declared.table.Row.{Row}
use Rattle.index.specs.Kept.{before, item_after, Kept}
use Rattle.index.specs.Known.{known_of}
use Rattle.index.specs.declared.Known.{Known}
use Rattle.state.specs.Standing.{round_at, slots, set_limit, defined_word}
use Rattle.state.specs.declared.State.{State}

-- the state after the first s .items items of the board
pub record Stands (board : List ℕ) (s : State) : Type 0 where
  pub place : s.place ≡ place_of (format_of board) board s.items
  pub mains : s.mains ≡ count main (before board s.items)
  pub last : s.last ≡ history.last main (before board s.items)
  pub config : s.config ≡ history.last history.config (before board s.items)
  pub threshold : s.threshold ≡ first (typed threshold_type) (before board s.items)
  pub authorizer : s.authorizer ≡ history.last (typed authorizer_type) (before board s.items)
  pub intent : s.intent ≡ first (typed intent_type) (before board s.items)
  pub contests : (k : ℕ) → k < set_limit → get_or s.contests k 0 ≡ defined_word (before board s.items) k
  pub rounds : (j : ℕ) → j < slots → get_or s.rounds j 0 ≡ round_at (before board s.items) j
  pub ballots : s.ballots ≡ length (counted (before board s.items))

-- what the code is to know of the item after them: its parts, its parent and its session
abbrev pub known_next : List ℕ → State → Known
known_next board s = known_of board (entry_of (before board s.items) s.place (item_after board s.items))

-- a check of the item after them: the head is listed and its count fits, the item lies within the board, and c is what is known of it
pub record AtItem (board index : List ℕ) (s : State) (c : Known) : Type 0 where
  pub kept : Kept board index s.items
  pub stands : Stands board s
  pub more : s.items < item_limit
  pub known : c ≡ known_next board s
  pub listed : types.Listed (format_of board) (get_or board s.place 0)
  pub counted : T (types.fits listed.row.counts (count_of (get_or board s.place 0)))
  pub within : c.item.end ≤ length board

-- the code's row of the table is that of the item's head
abbrev pub IsRow : List ℕ → State → Row → Type 0
IsRow board s r =
    types.row_of (format_of board) (get_or board s.place 0) ≡ row_of (kind_of (get_or board s.place 0)) (code_of (get_or board s.place 0)) (Some r)
