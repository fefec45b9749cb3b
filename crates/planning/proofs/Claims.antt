-- What is claimed of plans, in the order of the request. Each claim is proved on the page that its proof names.
use Prim.Native.Nat.{ℕ, ◌+◌, ◌*◌, ◌/◌, ◌≤◌, ◌<◌}
use mathlib.Core.Path.{◌≡◌}
use mathlib.Core.Logic.{◌≢◌, ◌↔◌, ◌⊎◌}
use mathlib.Core.List.{List, [], ◌∷◌}
use lib.ListN.{length, get_or, take}
use lib.Dec.{T}
use Rattle.sha256_block.specs.Fips as sha256
use Rattle.sha512_block.specs.Fips as sha512
use Rattle.model.specs.Lists.{has}
use Rattle.model.specs.Format.{Format}
use Rattle.model.specs.Traits.{traits_of}
use Rattle.model.specs.Item.{hashed}
use Rattle.model.specs.History.{History, Entry, place_of}
use Rattle.model.specs.Audit.{Outcome, unread, refused, accepted, audit}
use Rattle.model.specs.Report.{report_of, index_rows}
use Rattle.model.proofs.Lists.{Every}
use Rattle.format.specs.Format.{format_of, curve_number_of}
use Rattle.planning.specs.Plan.{heads_read, plan, sum_of, PlanAnswers, later_refusals, items_in, Related}
use Rattle.planning.proofs.Heads
use Rattle.planning.proofs.Related
use Rattle.planning.proofs.Blocks

-- ---- the answer

-- "It applies the oversize, blank, stranger, misfit, torn and closing-word rules only": each answer is given exactly for its reason, of any words in
-- any format, and there is one
pub plan-answers : (f : Format) (ws : List ℕ) (o : Outcome) → (heads_read f ws ≡ o) ↔ PlanAnswers f ws o
plan-answers = Heads.answers

pub one-plan : (f : Format) (ws : List ℕ) → (o : Outcome) × PlanAnswers f ws o × ((p : Outcome) → PlanAnswers f ws p → p ≡ o)
one-plan = Heads.one_answer

-- "From the heads": boards of one length and with the same traits in force have one plan where the words behind the first n items are the same, for
-- each n up to the items that the plan counts: the heads that pass, and the word that ends the reading
pub heads-alone : (ws us : List ℕ) → length ws ≡ length us → traits_of ws ≡ traits_of us
    → ((n : ℕ) → n ≤ (plan ws).items → get_or ws (place_of (format_of ws) ws n) 0 ≡ get_or us (place_of (format_of ws) ws n) 0) → plan ws ≡ plan us
heads-alone = Heads.heads-alone

-- a refusal gives its number and the items passed, and 0 for the rest
pub refused-plan : (ws : List ℕ) (n k : ℕ) → heads_read (format_of ws) ws ≡ refused n k → plan ws ≡ record { number = n; items = k; index_words = 0; blocks = 0 }
refused-plan = Heads.refused-plan

pub large-plan : (ws : List ℕ) → (262144 < length ws) ↔ (plan ws ≡ record { number = 1; items = 0; index_words = 0; blocks = 0 })
large-plan = Heads.large-plan

-- ---- a board whose heads pass, whatever the audit says of it

-- `sum_of` is the sum
pub sum_is : {A : Type 0} (g : A → ℕ) → (sum_of g [] ≡ 0) × ((x : A) (xs : List A) → sum_of g (x ∷ xs) ≡ g x + sum_of g xs)
sum_is = Heads.sum_is

module _ (ws : List ℕ) (h : History) (read : heads_read (format_of ws) ws ≡ accepted h) where
  -- the number of its items, and five words of the index table for each
  pub passed-plan : ((plan ws).number ≡ 0) × ((plan ws).items ≡ length h) × ((plan ws).index_words ≡ 5 * length h)
  passed-plan = Heads.passed-plan ws h read

  -- the blocks of each item's padded message, summed: on secp256r1,
  pub blocks-256 : curve_number_of ws ≡ 0 → (plan ws).blocks ≡ sum_of (λ e. length (sha256.padded (hashed e.item)) / 16) h
  blocks-256 = Blocks.blocks-256 ws h read

  -- on secp384r1, where a block has 16 words of 64 bits,
  pub blocks-384 : curve_number_of ws ≡ 1 → (plan ws).blocks ≡ sum_of (λ e. length (sha512.from_halves (sha512.padded (hashed e.item))) / 16) h
  blocks-384 = Blocks.blocks-384 ws h read

  -- and on secp521r1
  pub blocks-512 : curve_number_of ws ≡ 2 → (plan ws).blocks ≡ sum_of (λ e. length (sha512.from_halves (sha512.padded (hashed e.item))) / 16) h
  blocks-512 = Blocks.blocks-512 ws h read

-- ---- the audit of the same words, with any verdict words, any roll and tables of any length

module _ (f : Format) (ws vs roll : List ℕ) (index ballots : ℕ) where
  abbrev audited : Outcome
  audited = audit f ws vs roll index ballots

  -- how the two answers relate, in every case
  pub plan-related : Related vs (heads_read f ws) audited
  plan-related = Related.plan-related f ws vs roll index ballots

  -- "For every accepted board" the plan has the items of the audit,
  pub plan-accepted : (h : History) → audited ≡ accepted h → heads_read f ws ≡ accepted h
  plan-accepted = Related.plan-accepted f ws vs roll index ballots

  -- what the audit refuses by 1, 3, 5, 6 or 4 the plan refuses by the same number, after as many items,
  pub plan-refused : (n k : ℕ) → T (has n (1 ∷ 3 ∷ 5 ∷ 6 ∷ 4 ∷ [])) → audited ≡ refused n k → heads_read f ws ≡ refused n k
  plan-refused = Related.plan-refused f ws vs roll index ballots

  pub plan-large : (audited ≡ unread 1) ↔ (heads_read f ws ≡ unread 1)
  plan-large = Related.plan-large f ws vs roll index ballots

  -- what it refuses by 7 to 16 or 21 has a plan with more items than passed,
  pub plan-later : (n k : ℕ) → T (has n later_refusals) → audited ≡ refused n k → k < items_in (heads_read f ws)
  plan-later = Related.plan-later f ws vs roll index ballots

  -- what it refuses by 18 the plan refuses so, too, unless verdict words are left over and nothing else is wrong,
  pub plan-closing : (k : ℕ) → audited ≡ refused 18 k
      → (heads_read f ws ≡ refused 18 k) ⊎ ((h : History) × (heads_read f ws ≡ accepted h) × (length h ≡ k) × (9 * k < length vs))
  plan-closing = Related.plan-closing f ws vs roll index ballots

  -- and no board is accepted whose plan is a refusal
  pub refused-both : (n k : ℕ) → heads_read f ws ≡ refused n k → (h : History) → audited ≢ accepted h
  refused-both = Related.refused-both f ws vs roll index ballots

-- ---- the plan of an accepted board

module _ (ws vs roll : List ℕ) (index ballots : ℕ) (h : History) (a : audit (format_of ws) ws vs roll index ballots ≡ accepted h) where
  -- "the number of items": the audit's
  pub plan-items : ((plan ws).number ≡ 0) × ((plan ws).items ≡ (report_of (format_of ws) (accepted h)).items)
  plan-items = Blocks.plan-items ws vs roll index ballots h a

  -- "the index words they fill": those of their rows
  pub plan-index : (plan ws).index_words ≡ length (index_rows h 0 h)
  plan-index = Blocks.plan-index ws vs roll index ballots h a

  -- "the block count equals the blocks that the standard's padding gives for its addresses, summed": each address is the hash value after the blocks of
  -- its padded message, which are counted. On secp256r1,
  pub plan-256 : curve_number_of ws ≡ 0 → let message : Entry → List ℕ = λ e. sha256.padded (hashed e.item) in
      ((plan ws).blocks ≡ sum_of (λ e. length (message e) / 16) h)
      × Every (λ e. e.item.address ≡ sha256.hash_value (message e) (length (message e) / 16)) h
  plan-256 = Blocks.plan-256 ws vs roll index ballots h a

  -- on secp384r1, where a block has 16 words of 64 bits,
  pub plan-384 : curve_number_of ws ≡ 1 → let message : Entry → List ℕ = λ e. sha512.from_halves (sha512.padded (hashed e.item)) in
      ((plan ws).blocks ≡ sum_of (λ e. length (message e) / 16) h)
      × Every (λ e. e.item.address ≡ sha512.to_halves (take 6 (sha512.hash_value sha512.H0-384 (message e) (length (message e) / 16)))) h
  plan-384 = Blocks.plan-384 ws vs roll index ballots h a

  -- and on secp521r1
  pub plan-512 : curve_number_of ws ≡ 2 → let message : Entry → List ℕ = λ e. sha512.from_halves (sha512.padded (hashed e.item)) in
      ((plan ws).blocks ≡ sum_of (λ e. length (message e) / 16) h)
      × Every (λ e. e.item.address ≡ sha512.to_halves (sha512.hash_value sha512.H0-512 (message e) (length (message e) / 16))) h
  plan-512 = Blocks.plan-512 ws vs roll index ballots h a

-- there is no other curve
pub plan-curves : (ws : List ℕ) → curve_number_of ws < 3
plan-curves = Blocks.plan-curves
