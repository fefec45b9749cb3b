-- Receipts that can be answered, the bucket of each by its address, and the answers so far. Paper: request (ii). Assumes nothing.
use Rattle.std.specs.Prelude.{ℕ, zero, suc, ◌*◌, ◌≤◌, ◌≡◌, ◌&&◌, List, length, get_or, eqb, ltb}
use Rattle.model.specs.Lists.{if◌then◌otherwise◌, tabulate}
use Rattle.model.specs.History.{Entry}
use Rattle.model.specs.Report.{no_number, filled}
use Rattle.model.specs.Receipts.{receipt_limit, receipt_size, receipt_count, receipt_at, cast_of, receipt_answers}
use Rattle.format.specs.Format.{format_of}
use Rattle.chains.specs.Chain.{chain}
use Rattle.lookup.specs.Buckets.{of_address}
use Rattle.index.specs.Kept.{before}

-- whole receipts of a board's widths, not too many
pub record Whole (board receipts : List ℕ) : Type 0 where
  pub whole : length receipts ≡ receipt_count (format_of board) receipts * receipt_size (format_of board)
  pub few : receipt_count (format_of board) receipts ≤ receipt_limit

-- and a word for each
pub record Answerable (board receipts answers : List ℕ) : Type 0 where
  pub good : Whole board receipts
  pub room : receipt_count (format_of board) receipts ≤ length answers

-- ---- the buckets. Not of the paper: they change no answer

-- of receipt k, from 1 on
unfoldable pub by_receipt : (board receipts : List ℕ) → ℕ → ℕ
by_receipt board receipts zero = 0
by_receipt board receipts (suc k) = of_address (receipt_at (format_of board) receipts k).address

-- the chain table of all receipts
abbrev pub receipt_chain : (board receipts : List ℕ) → List ℕ
receipt_chain board receipts = chain (by_receipt board receipts) (receipt_count (format_of board) receipts)

-- ---- the answers

-- a buffer of so many words with the answers that a search for each receipt alone gives in the first n items, and zeros
abbrev pub answers_up_to : (board receipts : List ℕ) → ℕ → ℕ → List ℕ
answers_up_to board receipts n size = filled size (receipt_answers (format_of board) receipts (before board n))

-- answers with a cast's main number for each of its receipts that had none
unfoldable pub with_cast : (board receipts : List ℕ) → Entry → ℕ → List ℕ → List ℕ
with_cast board receipts e number answers =
    tabulate
    (λ k.
    let is_new =
    ltb k (receipt_count (format_of board) receipts) && eqb (get_or answers k 0) no_number && cast_of (receipt_at (format_of board) receipts k) e in
    if is_new then number otherwise get_or answers k 0)
    (length answers)
