-- Check 13 of a genesis, the format of a board, and the audit by them, as they were when there was one curve: what request (ix) changed, as it
-- stood before. All else is model's. Paper: request (v), "Other trait bits set give 13". Assumes nothing.
use Prim.Native.Nat.{ℕ, zero, suc, ◌≤◌}
use Rattle.std.specs.Prelude.{◌≡◌, ◌⊎◌, Bool, ◌&&◌, List, [], ◌∷◌, length, get_or, eqb}
use Rattle.std.proofs.Math.Bool.{not}
use Rattle.std.proofs.Math.Option.{Option, none, some}
use Rattle.std.proofs.Math.Dec.{ltb}
use Rattle.model.specs.Lists.{if◌then◌otherwise◌, ◌⇒◌}
use Rattle.model.specs.Words.{count_of}
use Rattle.model.specs.Codes.{genesis_type}
use Rattle.model.specs.Refusal.{too_large, short_table, empty_board, truncated, unknown_type, wrong_count, wrong_address, wrong_previous, wrong_parent}
use Rattle.model.specs.Refusal.{earlier_time, out_of_phase, duplicate, bad_content, no_verdict, wrong_key, bad_signature, bad_roll, not_on_roll}
use Rattle.model.specs.Format.{Format, Hashes, secp256r1, format_on}
use Rattle.model.specs.Traits.{traits_head, traits_place, set_words}
use Rattle.model.specs.Item.{Item, item_at, behind, code}
use Rattle.model.specs.Types.{Row, row_of, fits}
use Rattle.model.specs.History.{History, grown}
use Rattle.model.specs.Links.{address_ok, previous_ok, parent_ok, time_ok}
use Rattle.model.specs.Phase.{phase_ok}
use Rattle.model.specs.Only.{only_ok}
use Rattle.model.specs.Content.{genesis_traits, contest_ok, threshold_ok, authorizer_ok, round_ok, session_ok, commitment_ok, ballot_ok, fingerprint_ok, trustees_ok}
use Rattle.model.specs.Roll.{Eligibility, is_bad_roll, on_roll, on_roll_ok}
use Rattle.model.specs.Keys.{key_of, verdict_ok, key_ok, signature_ok}
use Rattle.model.specs.Audit.{Outcome, unread, refused, Check, first_unmet, verdict_of, judged, word_at, item_limit, is_too_large, is_short, is_empty, closing_ok}

-- ---- traits: "bit 0 set makes every contest set eight words long", and no other bit was known

unfoldable pub traits_known : ℕ → Bool
traits_known t = ltb t 2

unfoldable pub traits_of : List ℕ → ℕ
traits_of ws =
    let t = get_or ws traits_place 0 in
    if eqb (get_or ws 0 0) traits_head && traits_known t then t otherwise 0

abbrev pub format_of : Hashes → List ℕ → Format
format_of s ws = format_on s secp256r1 (set_words (traits_of ws))

-- ---- check 13: content

unfoldable pub genesis_ok : Item → Bool
genesis_ok i = eqb (code i) genesis_type ⇒ traits_known (genesis_traits i)

unfoldable pub content_ok : Format → History → Item → Bool
content_ok f h i =
    genesis_ok i
    && contest_ok f i
    && threshold_ok i
    && authorizer_ok i
    && round_ok h i
    && session_ok h i
    && commitment_ok f i
    && ballot_ok f h i
    && fingerprint_ok f h i
    && trustees_ok h i

-- ---- the audit, by that check

infix 80 ◌unless◌
abbrev ◌unless◌ : ℕ → Bool → Check
n unless b = record { number = n; met = b }

unfoldable pub checks : Format → Eligibility → History → List ℕ → Row → Item → List Check
checks f eligible h v r i =
    wrong_address unless address_ok f i
    ∷ wrong_previous unless previous_ok f h i
    ∷ wrong_parent unless parent_ok f h r.parent i
    ∷ earlier_time unless time_ok h i
    ∷ out_of_phase unless phase_ok h i
    ∷ duplicate unless only_ok h i
    ∷ bad_content unless content_ok f h i
    ∷ not_on_roll unless on_roll_ok eligible i
    ∷ no_verdict unless verdict_ok v
    ∷ wrong_key unless key_ok v (key_of h r.writer i)
    ∷ bad_signature unless signature_ok v
    ∷ []

module _ (f : Format) (eligible : Eligibility) (ws vs : List ℕ) where
  unfoldable pub fault_in : Option Row → History → ℕ → ℕ
  unfolding if◌then◌otherwise◌
  fault_in none h p = unknown_type
  fault_in (some r) h p =
      if not (fits r.counts (count_of (get_or ws p 0))) then wrong_count
      otherwise if ltb (length ws) (behind f ws p) then truncated
      otherwise first_unmet (checks f eligible h (verdict_of vs h) r (item_at f ws p))

  abbrev pub fault : History → ℕ → ℕ
  fault h p = fault_in (row_of f (get_or ws p 0)) h p

  unfoldable pub items : ℕ → History → ℕ → Outcome
  unfolding word_at
  items zero h p = word_at ws (closing_ok ws vs) h p (refused too_large (length h))
  items (suc k) h p = word_at ws (closing_ok ws vs) h p (judged (fault h p) h (items k (grown f ws h p) (behind f ws p)))

unfoldable pub audit : Format → (board verdicts roll : List ℕ) → (index ballots : ℕ) → Outcome
unfolding if◌then◌otherwise◌
audit f ws vs roll index ballots =
    if is_too_large ws then unread too_large
    otherwise if is_short index ballots then unread short_table
    otherwise if is_bad_roll roll then refused bad_roll 0
    otherwise if is_empty ws then refused empty_board 0
    otherwise items f (on_roll roll) ws vs item_limit [] 0

-- ---- what differs

-- the board begins with the head of a genesis of 18 words and has traits from 2 to 5: larger curves, which were not known
pub record LargerCurve (ws : List ℕ) : Type 0 where
  pub head : get_or ws 0 0 ≡ traits_head
  pub least : 2 ≤ get_or ws traits_place 0
  pub most : get_or ws traits_place 0 ≤ 5

-- an answer without any item that passed
abbrev pub NonePassed : Outcome → Type 0
NonePassed o = (n : ℕ) × ((o ≡ unread n) ⊎ (o ≡ refused n 0))
