-- Every answer for its reason: which of the paper's conditions is the first to apply, and where, with no word of how an audit goes on.
-- Paper: "Refusals and their order". Assumes nothing.
use Rattle.std.specs.Prelude.{ℕ, ◌≤◌, ◌<◌, ◌≡◌, ◌≢◌, Bool, true, false, not, List, [], ◌∷◌, ◌++◌, map, length, get_or, T, leb, ltb}
use Rattle.std.proofs.Math.Option.{Option, none, some}
use Rattle.model.specs.Lists.{any}
use Rattle.model.specs.Words.{count_of, is_closing}
use Rattle.model.specs.Refusal.{too_large, short_table, empty_board, truncated, unknown_type, wrong_count, wrong_address, wrong_previous, wrong_parent, earlier_time, out_of_phase, duplicate, bad_content, no_verdict, wrong_key, bad_signature, bad_closing, bad_roll, not_on_roll}
use Rattle.model.specs.Format.{Format}
use Rattle.model.specs.Item.{item_at, behind}
use Rattle.model.specs.Types.{Row, row_of, fits}
use Rattle.model.specs.History.{place_of, history}
use Rattle.model.specs.Links.{address_ok, previous_ok, parent_ok, time_ok}
use Rattle.model.specs.Phase.{phase_ok}
use Rattle.model.specs.Only.{only_ok}
use Rattle.model.specs.Content.{content_ok}
use Rattle.model.specs.Roll.{Eligibility, is_bad_roll, on_roll, on_roll_ok}
use Rattle.model.specs.Keys.{key_of, verdict_ok, key_ok, signature_ok}
use Rattle.model.specs.Audit.{Outcome, unread, refused, accepted, item_limit, is_too_large, is_short, is_empty, closing_ok, verdict_of}

-- a row of the paper's table: the refusal's number, and whether its condition applies
pub record Reason : Type 0 where
  pub number : ℕ
  pub applies : Bool

infix 80 ◌when◌
abbrev ◌when◌ : ℕ → Bool → Reason
n when b = record { number = n; applies = b }

abbrev pub numbers_of : List Reason → List ℕ
numbers_of = map (λ r. r.number)

-- none of the reasons applies
abbrev pub NoneOf : List Reason → Type 0
NoneOf rs = T (not (any (λ r. r.applies) rs))

-- "The first that applies is the answer": n is its number
pub record FirstOf (rs : List Reason) (n : ℕ) : Type 0 where
  pub earlier : List Reason
  pub reason : Reason
  pub later : List Reason
  pub listed : rs ≡ earlier ++ (reason ∷ later)
  pub no_earlier : NoneOf earlier
  pub applies : T reason.applies
  pub number : reason.number ≡ n

-- "Word limit, 2 and 3 come first"; 20 "comes right after 2"
unfoldable pub start_reasons : (board roll : List ℕ) → (index ballots : ℕ) → List Reason
start_reasons ws roll index ballots =
    too_large when is_too_large ws
    ∷ short_table when is_short index ballots
    ∷ bad_roll when is_bad_roll roll
    ∷ empty_board when is_empty ws
    ∷ []

-- a type is listed, and its row passes p
unfoldable pub listed_with : (Row → Bool) → Option Row → Bool
listed_with p none = false
listed_with p (some r) = p r

-- ---- behind the first k items

module _ (f : Format) (ws : List ℕ) (k : ℕ) where
  -- no word stands there
  abbrev pub EndsAt : Type 0
  EndsAt = length ws ≤ place_of f ws k

  -- a closing word
  abbrev pub ClosesAt : Type 0
  ClosesAt = (place_of f ws k < length ws) × T (is_closing (get_or ws (place_of f ws k) 0))

  -- another word: the head of an item
  abbrev pub HeadAt : Type 0
  HeadAt = (place_of f ws k < length ws) × T (not (is_closing (get_or ws (place_of f ws k) 0)))

-- "item by item: the item limit, 5, 6, 4", of the head there. Each condition stands alone: what it asks of an item that is not listed does not
-- matter, since 5 comes first.
abbrev pub head_reasons : Format → List ℕ → ℕ → List Reason
head_reasons f ws k =
    let p = place_of f ws k in
    let w = get_or ws p 0 in
    let row = row_of f w in
    too_large when leb item_limit k
    ∷ unknown_type when not (listed_with (λ r. true) row)
    ∷ wrong_count when not (listed_with (λ r. fits r.counts (count_of w)) row)
    ∷ truncated when ltb (length ws) (behind f ws p)
    ∷ []

-- those of the head, "then 7 to 16 in order", 21 "right after 13". What these say of an item that is not listed or not whole does not matter, since
-- 5 or 4 comes first.
unfoldable pub item_reasons : Format → Eligibility → (board verdicts : List ℕ) → ℕ → List Reason
item_reasons f eligible ws vs k =
    let p = place_of f ws k in
    let row = row_of f (get_or ws p 0) in
    let h = history f ws k in
    let i = item_at f ws p in
    let v = verdict_of vs h in
    head_reasons f ws k ++ (
    wrong_address when not (address_ok f i)
    ∷ wrong_previous when not (previous_ok f h i)
    ∷ wrong_parent when not (listed_with (λ r. parent_ok f h r.parent i) row)
    ∷ earlier_time when not (time_ok h i)
    ∷ out_of_phase when not (phase_ok h i)
    ∷ duplicate when not (only_ok h i)
    ∷ bad_content when not (content_ok f h i)
    ∷ not_on_roll when not (on_roll_ok eligible i)
    ∷ no_verdict when not (verdict_ok v)
    ∷ wrong_key when not (listed_with (λ r. key_ok v (key_of h r.writer i)) row)
    ∷ bad_signature when not (signature_ok v)
    ∷ [])

-- "At the closing word: 18, then 17"; request (viii) removed 17
unfoldable pub closing_reasons : Format → (board verdicts : List ℕ) → ℕ → List Reason
closing_reasons f ws vs k =
    bad_closing when not (closing_ok ws vs (history f ws k) (place_of f ws k))
    ∷ []

-- the first k items pass: each has a head, and no reason applies to it
abbrev pub PassedFirst : Format → Eligibility → List ℕ → List ℕ → ℕ → Type 0
PassedFirst f eligible ws vs k = (j : ℕ) → j < k → HeadAt f ws j × NoneOf (item_reasons f eligible ws vs j)

-- ---- the answers, with so many words in the index table and in the ballot table

module _ (f : Format) (ws vs roll : List ℕ) (index ballots : ℕ) where
  -- there was nothing to refuse before the items, and the first k of them pass
  pub record Reached (k : ℕ) : Type 0 where
    pub started : NoneOf (start_reasons ws roll index ballots)
    pub passed : PassedFirst f (on_roll roll) ws vs k

  pub data Answers : Outcome → Type 0 where
    -- 1's word limit, or 2
    at_start : (n : ℕ) → FirstOf (start_reasons ws roll index ballots) n → n ≢ bad_roll → n ≢ empty_board → Answers (unread n)
    -- 20
    at_roll : FirstOf (start_reasons ws roll index ballots) bad_roll → Answers (refused bad_roll 0)
    -- 3
    at_empty : FirstOf (start_reasons ws roll index ballots) empty_board → Answers (refused empty_board 0)
    -- 4, "no closing word"
    at_end : (k : ℕ) → Reached k → EndsAt f ws k → Answers (refused truncated k)
    -- 1's item limit, 5, 6, 4, 7 to 16, or 21
    at_item : (n k : ℕ) → Reached k → HeadAt f ws k → FirstOf (item_reasons f (on_roll roll) ws vs k) n → Answers (refused n k)
    -- 18
    at_closing : (n k : ℕ) → Reached k → ClosesAt f ws k → FirstOf (closing_reasons f ws vs k) n → Answers (refused n k)
    -- "Acceptance gives 0"
    acceptance : (k : ℕ) → Reached k → ClosesAt f ws k → NoneOf (closing_reasons f ws vs k) → Answers (accepted (history f ws k))
