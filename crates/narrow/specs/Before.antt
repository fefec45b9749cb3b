-- The rules on sets, and the audit by them, as they were when a set was one word: what request (v) changed, as it stood before. All else is model's.
-- Paper: "Item types", "Phases", "Content", "Refusals and their order". Assumes nothing.
use Prim.Native.Nat.{ℕ, zero, suc, ◌+◌, ◌-◌, ◌*◌, ◌%◌, ◌≤◌}
use Rattle.std.specs.Prelude.{◌≡◌, Bool, true, ◌&&◌, List, [], ◌∷◌, length, get_or, T, eqb, leb}
use Rattle.std.proofs.Math.Bool.{not}
use Rattle.std.proofs.Math.Option.{Option, none, some}
use Rattle.std.proofs.Math.Dec.{ltb}
use Rattle.std.specs.Int.Count.{ones_in}
use Rattle.model.specs.Lists.{if◌then◌otherwise◌, ◌⇒◌, part, any, has}
use Rattle.model.specs.Words.{kind_of, code_of, count_of, between, pair, low_zero, set_bits, bit, every_below, main_kind, hidden_kind}
use Rattle.model.specs.Codes.{genesis_type, text_type, contest_type, threshold_type, authorizer_type, round_type, session_type}
use Rattle.model.specs.Codes.{voter_commitment_type, server_commitment_type, ballot_type, cast_type, spoil_type}
use Rattle.model.specs.Codes.{intent_type, extraction_type, confirmation_type, track_type, verifier_type, voter_opening_type, server_opening_type}
use Rattle.model.specs.Refusal.{too_large, short_table, empty_board, truncated, unknown_type, wrong_count, wrong_address, wrong_previous, wrong_parent}
use Rattle.model.specs.Refusal.{earlier_time, out_of_phase, duplicate, bad_content, no_verdict, wrong_key, bad_signature, bad_roll, not_on_roll}
use Rattle.model.specs.Format.{Format, Hashes, secp256r1, format_on, key_size, fingerprint_size, share_size}
use Rattle.model.specs.Traits.{traits_head}
use Rattle.model.specs.Item.{Item, item_at, behind, code, time, word}
use Rattle.model.specs.Types.{Writer, administrator, ballot_box, authorizer, voter, verifier, ParentRule, zeros, latest_config, of_type}
use Rattle.model.specs.History.{History, item_no, first, typed, session_number, session_weight, grown, place_of}
use Rattle.model.specs.Links.{address_ok, previous_ok, parent_ok, time_ok}
use Rattle.model.specs.Phase.{rounds, round_number, extraction_ok, standing_ok, latest_ok, intent_ok, spoiled_ok}
use Rattle.model.specs.Only.{only_ok}
use Rattle.model.specs.Content.{defines, threshold_ok, authorizer_ok, commitment_ok, fingerprint_ok}
use Rattle.model.specs.Roll.{Eligibility, is_bad_roll, on_roll, on_roll_ok}
use Rattle.model.specs.Keys.{key_of, verdict_ok, key_ok, signature_ok}
use Rattle.model.specs.Audit.{Outcome, unread, refused, Check, first_unmet, verdict_of, judged, word_at, item_limit, is_too_large, is_short, is_empty, closing_ok}

-- ---- sets: "bit j of the word stands for number j, and k is the number of ones in that word". `bit` was called member

abbrev pub size : ℕ → ℕ
size = ones_in set_bits

-- every number of the set passes p
unfoldable pub all_in : ℕ → (ℕ → Bool) → Bool
all_in w p = every_below set_bits (λ j. bit w j ⇒ p j)

-- ---- checks 5 and 6: the table

-- the counts of content words: from one number to another, or 1 + k times a size, "k in 1..32"
pub data Counts : Type 0 where
  from◌to◌ : ℕ → ℕ → Counts
  one_and_each : ℕ → Counts

unfoldable pub fits : Counts → ℕ → Bool
fits (from◌to◌ lo hi) n = between lo hi n
fits (one_and_each s) n = between (1 + s) (1 + set_bits * s) n && eqb ((n - 1) % s) 0

-- a row of the table
pub record Row : Type 0 where
  pub code : ℕ
  pub kind : ℕ
  pub writer : Writer
  pub parent : ParentRule
  pub counts : Counts

abbrev main : ℕ → Writer → ParentRule → Counts → Row
main c w p n = record { code = c; kind = main_kind; writer = w; parent = p; counts = n }

abbrev hidden : ℕ → Writer → ParentRule → Counts → Row
hidden c w p n = record { code = c; kind = hidden_kind; writer = w; parent = p; counts = n }

abbrev exactly : ℕ → Counts
exactly n = from◌to◌ n n

-- genesis
abbrev pub first_row : Row
first_row = main genesis_type administrator zeros (exactly (1 + key_size + key_size))

-- the others
unfoldable pub other_rows : Format → List Row
other_rows f =
    main text_type administrator latest_config (from◌to◌ 0 64)
    ∷ main contest_type administrator latest_config (from◌to◌ 1 65)
    ∷ main threshold_type administrator latest_config (exactly (2 + key_size))
    ∷ main authorizer_type administrator latest_config (exactly (1 + key_size))
    ∷ main round_type administrator latest_config (exactly 6)
    ∷ main session_type authorizer latest_config (exactly (2 + key_size + fingerprint_size + 1))
    ∷ main voter_commitment_type voter (of_type session_type) (exactly f.commitment)
    ∷ main server_commitment_type ballot_box (of_type voter_commitment_type) (exactly f.commitment)
    ∷ main ballot_type voter (of_type server_commitment_type) (one_and_each f.cryptogram)
    ∷ main cast_type voter (of_type ballot_type) (exactly 0)
    ∷ main spoil_type voter (of_type ballot_type) (exactly 0)
    ∷ main intent_type administrator latest_config (exactly 0)
    ∷ main extraction_type ballot_box (of_type intent_type) (exactly fingerprint_size)
    ∷ main confirmation_type administrator (of_type extraction_type) (one_and_each share_size)
    ∷ hidden track_type ballot_box (of_type ballot_type) (exactly 0)
    ∷ hidden verifier_type verifier (of_type track_type) (exactly key_size)
    ∷ hidden voter_opening_type voter (of_type verifier_type) (from◌to◌ 1 256)
    ∷ hidden server_opening_type ballot_box (of_type voter_opening_type) (from◌to◌ 1 256)
    ∷ []

abbrev pub table : Format → List Row
table f = first_row ∷ other_rows f

-- ---- check 11: phases

-- type 6: number, contests, start, end
abbrev pub round_contests : Item → ℕ
round_contests = word 1

abbrev pub round_start : Item → ℕ
round_start r = pair (part 2 2 r.content)

abbrev pub round_end : Item → ℕ
round_end r = pair (part 4 2 r.content)

-- start ≤ time < end
unfoldable pub is_open : ℕ → Item → Bool
is_open t r = leb (round_start r) t && ltb t (round_end r)

-- types 16 to 21 need a round open at their own time
unfoldable pub open_ok : History → Item → Bool
open_ok h i = between 16 21 (code i) ⇒ any (is_open (time i)) (rounds h)

unfoldable pub phase_ok : History → Item → Bool
phase_ok h i = extraction_ok h i && open_ok h i && standing_ok h i && latest_ok h i && intent_ok h i && spoiled_ok h i

-- ---- check 13: content

-- type 16: the contests stand last
abbrev pub session_contests : Item → ℕ
session_contests = word (2 + key_size + fingerprint_size)

-- contests not empty and all defined by a type 3 already
unfoldable pub contests_ok : History → ℕ → Bool
contests_ok h w = not (eqb (size w) 0) && all_in w (λ j. any (defines j) h)

abbrev pub enables : ℕ → ℕ → Item → Bool
enables t j r = is_open t r && bit (round_contests r) j

-- contest j is in the session's set and enabled by an open round
unfoldable pub may_vote : History → Item → ℕ → Bool
may_vote h i j = bit (session_contests (item_no h (session_number h i))) j && any (enables (time i) j) (rounds h)

-- the low 16 bits of the last word of each of k cryptograms of s words are zero
unfoldable pub cryptograms_ok : ℕ → ℕ → List ℕ → Bool
cryptograms_ok s zero c = true
cryptograms_ok s (suc k) c = low_zero 16 (get_or c (suc k * s) 0) && cryptograms_ok s k c

-- 3: number 0..31
unfoldable pub contest_ok : Item → Bool
contest_ok i = eqb (code i) contest_type ⇒ leb (word 0 i) 31

-- 6: number 0..15, start < end, contests
unfoldable pub round_ok : History → Item → Bool
round_ok h i = eqb (code i) round_type ⇒ leb (round_number i) 15 && ltb (round_start i) (round_end i) && contests_ok h (round_contests i)

-- 16: weight at least 1, contests as for 6
unfoldable pub session_ok : History → Item → Bool
session_ok h i = eqb (code i) session_type ⇒ leb 1 (session_weight i) && contests_ok h (session_contests i)

-- 19: k cryptograms for k contests, each contest one that the voter may vote in
unfoldable pub ballot_ok : Format → History → Item → Bool
ballot_ok f h i =
    eqb (code i) ballot_type
    ⇒ eqb (length i.content) (1 + size (word 0 i) * f.cryptogram)
    && all_in (word 0 i) (may_vote h i)
    && cryptograms_ok f.cryptogram (size (word 0 i)) i.content

-- 34: words for each trustee, numbers below m, at least t of them; m and t are the threshold's
unfoldable pub trustees_ok : History → Item → Bool
trustees_ok h i =
    let threshold = item_no h (first (typed threshold_type) h) in
    eqb (code i) confirmation_type
    ⇒ eqb (length i.content) (1 + size (word 0 i) * share_size)
    && all_in (word 0 i) (λ j. ltb j (word 0 threshold))
    && leb (word 1 threshold) (size (word 0 i))

unfoldable pub content_ok : Format → History → Item → Bool
content_ok f h i =
    contest_ok i
    && threshold_ok i
    && authorizer_ok i
    && round_ok h i
    && session_ok h i
    && commitment_ok f i
    && ballot_ok f h i
    && fingerprint_ok f h i
    && trustees_ok h i

-- ---- the audit

unfoldable pub row_in : ℕ → ℕ → List Row → Option Row
unfolding if◌then◌otherwise◌
row_in k c [] = none
row_in k c (r ∷ rs) = if eqb k r.kind && eqb c r.code then some r otherwise row_in k c rs

-- the row of a head word: its type, listed under its kind. "Types 48 to 51 have kind 2, all others kind 1."
unfoldable pub row_of : Format → ℕ → Option Row
row_of f w = row_in (kind_of w) (code_of w) (table f)

infix 80 ◌unless◌
abbrev ◌unless◌ : ℕ → Bool → Check
n unless b = record { number = n; met = b }

-- "7 to 16 in order", 21 "right after 13", of an item after the history h, with its verdict words v
unfoldable pub checks : Format → Eligibility → History → List ℕ → Row → Item → List Check
checks f eligible h v r i =
    wrong_address unless address_ok f i
    ∷ wrong_previous unless previous_ok f h i
    ∷ wrong_parent unless parent_ok f h r.parent i
    ∷ earlier_time unless time_ok h i
    ∷ out_of_phase unless phase_ok h i
    ∷ duplicate unless only_ok h i
    ∷ bad_content unless content_ok f h i
    ∷ not_on_roll unless on_roll_ok eligible i
    ∷ no_verdict unless verdict_ok v
    ∷ wrong_key unless key_ok v (key_of h r.writer i)
    ∷ bad_signature unless signature_ok v
    ∷ []

module _ (f : Format) (eligible : Eligibility) (ws vs : List ℕ) where
  -- "5, 6, 4, then 7 to 16 in order", with 21: the refusal of the item at place p after the history h, whose row of the table is given
  unfoldable pub fault_in : Option Row → History → ℕ → ℕ
  unfolding if◌then◌otherwise◌
  fault_in none h p = unknown_type
  fault_in (some r) h p =
      if not (fits r.counts (count_of (get_or ws p 0))) then wrong_count
      otherwise if ltb (length ws) (behind f ws p) then truncated
      otherwise first_unmet (checks f eligible h (verdict_of vs h) r (item_at f ws p))

  abbrev pub fault : History → ℕ → ℕ
  fault h p = fault_in (row_of f (get_or ws p 0)) h p

  -- the words from place p on, after the history h, where so many more items are allowed
  unfoldable pub items : ℕ → History → ℕ → Outcome
  unfolding word_at
  items zero h p = word_at ws (closing_ok ws vs) h p (refused too_large (length h))
  items (suc k) h p = word_at ws (closing_ok ws vs) h p (judged (fault h p) h (items k (grown f ws h p) (behind f ws p)))

-- "Word limit, 2 and 3 come first. Then, item by item"; 20 "comes right after 2". With the roll, and with so many words in the index table and
-- in the ballot table
unfoldable pub audit : Format → (board verdicts roll : List ℕ) → (index ballots : ℕ) → Outcome
unfolding if◌then◌otherwise◌
audit f ws vs roll index ballots =
    if is_too_large ws then unread too_large
    otherwise if is_short index ballots then unread short_table
    otherwise if is_bad_roll roll then refused bad_roll 0
    otherwise if is_empty ws then refused empty_board 0
    otherwise items f (on_roll roll) ws vs item_limit [] 0

-- ---- what differs

-- 12, and what comes before it of an item whose type and count are in the table
abbrev pub up_to_second : List ℕ
up_to_second = truncated ∷ wrong_address ∷ wrong_previous ∷ wrong_parent ∷ earlier_time ∷ out_of_phase ∷ duplicate ∷ []

-- behind so many items, at least one, stands the head of a genesis of 18 words. Its count was not in the table, 6; now it is, and the item is
-- refused as a second genesis, 12, or by a check before that
pub record LaterGenesis (s : Hashes) (ws : List ℕ) (was is : Outcome) : Type 0 where
  pub passed : ℕ
  pub later : 1 ≤ passed
  pub head : get_or ws (place_of (format_on s secp256r1 1) ws passed) 0 ≡ traits_head
  pub before : was ≡ refused wrong_count passed
  pub number : ℕ
  pub now : is ≡ refused number passed
  pub number_is : T (has number up_to_second)
