-- The code's plan as the paper's numbers and values, and what is seen of a head. Paper: request (x). Assumes nothing.
use Rattle.std.specs.Prelude.{ℕ, ◌/◌, ◌%◌, ◌^◌, ◌≤◌, ◌<◌, ◌≡◌, List, [], Result, Ok, Err, length, get_or, set, eqb}
use Rattle.std.proofs.Math.Option.{Option, none, some}
use Rattle.model.specs.Lists.{if◌then◌otherwise◌}
use Rattle.model.specs.Refusal.{no_fault, unknown_type, wrong_count}
use Rattle.model.specs.Types as types
use Rattle.model.specs.Words.{count_of}
use Rattle.model.specs.Item.{hashed_length, behind}
use Rattle.model.specs.History.{place_of, history}
use Rattle.model.specs.Audit.{Outcome, item_limit, closing}
use Rattle.format.specs.Format.{format_of, curve_number_of}
use Rattle.refusal.specs.Number.{number_of}
use Rattle.refusal.specs.declared.Refusal.{Refusal}
use Rattle.refusal.specs.declared.Refused.{Refused}
use Rattle.planning.specs.Plan as planning
use Rattle.planning.specs.Plan.{head_only, closed_only, hash_on, blocks_for, sum_of}
use Rattle.plan.specs.declared.Plan.{Plan}
use Rattle.plan.specs.declared.Heads.{Heads}
use Rattle.plan.specs.declared.Seen.{Seen}

-- a refusal has every other number 0
abbrev pub planned : Result Plan Refused → planning.Plan
planned (Ok p) = record { number = no_fault; items = p.items; index_words = p.index_words; blocks = p.blocks }
planned (Err r) = record { number = number_of r.refusal; items = r.items; index_words = 0; blocks = 0 }

-- 5, 6 or 4, of the head at place p; 0 for none
abbrev pub head_fault : List ℕ → ℕ → ℕ
head_fault board p = head_only (format_of board) board [] p

-- the blocks over which the address of the item at place p is hashed
abbrev pub blocks_at : List ℕ → ℕ → ℕ
blocks_at board p = blocks_for (hash_on (curve_number_of board)) (hashed_length (format_of board) (count_of (get_or board p 0)))

-- a look at that head: it passes, with the place behind its item, which is in the board, and the blocks of its address; or its refusal is named
abbrev pub IsLook : List ℕ → ℕ → Result Seen Refusal → Type 0
IsLook board p (Ok s) =
    (head_fault board p ≡ no_fault) × (s.end ≡ behind (format_of board) board p) × (s.end ≤ length board) × (s.blocks ≡ blocks_at board p)
IsLook board p (Err refusal) = head_fault board p ≡ number_of refusal

-- ---- head words that are known to pass 5 and 6

-- 5 or 6, of a head word; 0 for none
unfoldable pub count_fault : Option types.Row → ℕ → ℕ
count_fault none n = unknown_type
count_fault (some r) n = if types.fits r.counts n then no_fault otherwise wrong_count

abbrev pub word_fault : List ℕ → ℕ → ℕ
word_fault board w = count_fault (types.row_of (format_of board) w) (count_of w)

-- words that pass, each at its type code modulo 64
pub record Known (board known : List ℕ) : Type 0 where
  pub sized : length known ≡ 64
  pub pass : (k : ℕ) → k < 64 → word_fault board (get_or known k 0) ≡ no_fault

-- these words after a look at the word w, which is kept where it passes
unfoldable pub known_after : List ℕ → ℕ → List ℕ → List ℕ
known_after board w known = if eqb (word_fault board w) no_fault then set known (w / 2 ^ 16 % 64) w otherwise known

-- ---- behind the heads that are read

-- the plan that an outcome gives on a board
abbrev pub plan_from : List ℕ → Outcome → planning.Plan
plan_from board = planning.plan_of (format_of board) (blocks_for (hash_on (curve_number_of board)))

-- s stands behind the first s .items items
pub record Read (board : List ℕ) (s : Heads) : Type 0 where
  pub few : s.items ≤ item_limit
  pub place : s.place ≡ place_of (format_of board) board s.items
  pub blocks : s.blocks
      ≡ sum_of (planning.blocks_at (format_of board) (blocks_for (hash_on (curve_number_of board)))) (history (format_of board) board s.items)
  pub small : s.blocks ≤ s.place

-- the outcome at a closing word there
abbrev pub closing_read : List ℕ → Heads → Outcome
closing_read board s =
    let h = history (format_of board) board s.items in
    closing (closed_only (format_of board) board h s.place) h
