-- Planning a machine's day: "From the heads, with the widths read as for the audit, we want, before an audit, the number of items, the index words
-- they fill and the hash blocks of all addresses, without hashing." Paper: request (x). Assumes nothing.
use Rattle.std.specs.Prelude.{ℕ, ◌+◌, ◌*◌, ◌/◌, ◌<◌, ◌≡◌, ◌≢◌, Bool, not, length, get_or, T, eqb}
use mathlib.Core.List.{List, [], ◌∷◌}
use Rattle.sha2_common.specs.Blocks.{HashFunction}
use Rattle.sha256_blocks.specs.Blocks.{sha256_function}
use Rattle.sha512_blocks.specs.Blocks.{sha512_function}
use Rattle.model.specs.Lists.{if◌then◌otherwise◌, has}
use Rattle.model.specs.Words.{count_of}
use Rattle.model.specs.Refusal.{no_fault, too_large, short_table, empty_board, truncated, wrong_address, wrong_previous, wrong_parent, earlier_time, out_of_phase, duplicate, bad_content, no_verdict, wrong_key, bad_signature, bad_closing, bad_roll, not_on_roll}
use Rattle.model.specs.Format.{Format, verdict_size}
use Rattle.model.specs.Item.{hashed_length}
use Rattle.model.specs.Types.{row_of}
use Rattle.model.specs.History.{History, Entry, place_of, history}
use Rattle.model.specs.Audit.{Outcome, unread, refused, accepted, item_limit, index_row, is_too_large, is_empty, is_closed, head_fault, reading}
use Rattle.model.specs.Above.{answered}
use Rattle.model.specs.Reasons.{NoneOf, FirstOf, EndsAt, ClosesAt, HeadAt, head_reasons}
use Rattle.format.specs.Format.{format_of, curve_number_of}

-- ---- the heads, read as the audit reads items

module _ (f : Format) (ws : List ℕ) where
  -- of an item 5, 6 and 4, and nothing else
  abbrev pub head_only : History → ℕ → ℕ
  head_only h p = head_fault f ws (row_of f (get_or ws p 0)) p (λ r. no_fault)

  -- of the closing word 18, "verdict words aside"
  abbrev pub closed_only : History → ℕ → Bool
  closed_only h p = is_closed ws (length h) p

  -- "It applies the oversize, blank, stranger, misfit, torn and closing-word rules only": 1, 3, 5, 6, 4 and 18, in the audit's order. The history that
  -- is accepted is that of items of which nothing else was asked
  unfoldable pub heads_read : Outcome
  unfolding if◌then◌otherwise◌
  heads_read =
      if is_too_large ws then unread too_large
      otherwise if is_empty ws then refused empty_board 0
      otherwise reading f ws closed_only head_only item_limit [] 0

-- ---- the blocks of a message

-- the hash of a board's addresses, by the number of its curve: "0 SHA-256, 1 SHA-384, 2 SHA-512". The last two have the same blocks and padding
unfoldable pub hash_on : ℕ → HashFunction
hash_on curve = if eqb curve 1 then sha512_function otherwise if eqb curve 2 then sha512_function otherwise sha256_function

-- "the blocks that the standard's padding gives", for a message of n words: what is padded depends on n alone
unfoldable pub blocks_for : HashFunction → ℕ → ℕ
blocks_for s n = (n + length (s.padding n)) / s.size

-- ---- the answer

pub record Plan : Type 0 where
  pub number : ℕ
  pub items : ℕ
  pub index_words : ℕ
  pub blocks : ℕ

unfoldable pub sum_of : {A : Type 0} → (A → ℕ) → List A → ℕ
sum_of g [] = 0
sum_of g (x ∷ xs) = g x + sum_of g xs

-- of an item's address, from its head: `blocks` gives those of a message of so many words
abbrev pub blocks_at : Format → (blocks : ℕ → ℕ) → Entry → ℕ
blocks_at f blocks e = blocks (hashed_length f (count_of e.item.head))

-- a refusal gives its number and the items passed, the rest 0
unfoldable pub plan_of : Format → (blocks : ℕ → ℕ) → Outcome → Plan
plan_of f blocks =
    answered
    (λ n k. record { number = n; items = k; index_words = 0; blocks = 0 })
    (λ h. record { number = no_fault; items = length h; index_words = index_row * length h; blocks = sum_of (blocks_at f blocks) h })

-- of a board, in its own format and by its own hash
abbrev pub plan : List ℕ → Plan
plan ws = plan_of (format_of ws) (blocks_for (hash_on (curve_number_of ws))) (heads_read (format_of ws) ws)

-- ---- what is promised: every answer for its reason, with no word of how the heads are read

module _ (f : Format) (ws : List ℕ) where
  -- there was nothing to refuse before the items, and the heads of the first k of them pass
  pub record HeadsPass (k : ℕ) : Type 0 where
    pub short : T (not (is_too_large ws))
    pub begun : T (not (is_empty ws))
    pub passed : (j : ℕ) → j < k → HeadAt f ws j × NoneOf (head_reasons f ws j)

  pub data PlanAnswers : Outcome → Type 0 where
    -- 1's word limit
    at_start : T (is_too_large ws) → PlanAnswers (unread too_large)
    -- 3
    at_empty : T (not (is_too_large ws)) → T (is_empty ws) → PlanAnswers (refused empty_board 0)
    -- 4, "no closing word"
    at_end : (k : ℕ) → HeadsPass k → EndsAt f ws k → PlanAnswers (refused truncated k)
    -- 1's item limit, 5, 6 or 4
    at_head : (n k : ℕ) → HeadsPass k → HeadAt f ws k → FirstOf (head_reasons f ws k) n → PlanAnswers (refused n k)
    -- 18
    at_closing : (k : ℕ) → HeadsPass k → ClosesAt f ws k → T (not (is_closed ws k (place_of f ws k))) → PlanAnswers (refused bad_closing k)
    acceptance : (k : ℕ) → HeadsPass k → ClosesAt f ws k → T (is_closed ws k (place_of f ws k)) → PlanAnswers (accepted (history f ws k))

-- ---- what is promised: how the audit's answer relates to the plan's

-- 7 to 16 and 21: what an audit asks of an item beside its head
abbrev pub later_refusals : List ℕ
later_refusals =
    wrong_address ∷ wrong_previous ∷ wrong_parent ∷ earlier_time ∷ out_of_phase ∷ duplicate ∷ bad_content ∷ not_on_roll ∷ no_verdict ∷ wrong_key ∷ bad_signature ∷ []

-- the items that an outcome counts
abbrev pub items_in : Outcome → ℕ
items_in = answered (λ n k. k) length

-- what is read of the heads, and the audit of the same words with the verdict words vs
pub data Related (vs : List ℕ) (heads : Outcome) : (audited : Outcome) → Type 0 where
  -- both accept, with the same items, or both refuse, by the same number and after as many items
  alike : Related vs heads heads
  -- 2 or 20: of tables and of a roll a plan knows nothing. 1's word limit comes before them
  no_table : heads ≢ unread too_large → Related vs heads (unread short_table)
  no_roll : heads ≢ unread too_large → Related vs heads (refused bad_roll 0)
  -- 7 to 16 or 21, of an item whose head passes
  later : (n k : ℕ) → T (has n later_refusals) → k < items_in heads → Related vs heads (refused n k)
  -- 18, for verdict words left over and nothing else
  left_over : (h : History) → heads ≡ accepted h → verdict_size * length h < length vs → Related vs heads (refused bad_closing (length h))
