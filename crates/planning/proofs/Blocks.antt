-- The blocks of a plan, by the standard's padding, summed; and the plan of an accepted board: its items, the words of its index rows, its addresses.
-- Paper: request (x), "the block count equals the blocks that the standard's padding gives for its addresses, summed". Assumes nothing.
use Prim.Native.Nat.{ℕ, ◌+◌, ◌/◌, ◌<◌}
use native.Mathlib.Omega.{arith}
use mathlib.Core.Path.{◌≡◌, refl, sym, ap, ap₂, ◌∙◌}
use mathlib.Core.Bool.{◌&&◌}
use mathlib.Core.List.{List, [], ◌∷◌, ◌++◌}
use lib.ListN.{length, get_or, take, length-append}
use lib.Dec.{eqb}
use Rattle.sha2_common.specs.Blocks.{HashFunction}
use Rattle.sha256_block.specs.Fips as sha256
use Rattle.sha512_block.specs.Fips as sha512
use Rattle.sha512_block.proofs.Halves.{length_from}
use Rattle.sha256_blocks.specs.Blocks.{sha256_function}
use Rattle.sha512_blocks.specs.Blocks.{sha512_function}
use Rattle.model.specs.Lists.{if◌then◌otherwise◌}
use Rattle.model.specs.Words.{count_of}
use Rattle.model.specs.Format.{Format}
use Rattle.model.specs.Traits.{traits_head, traits_place, traits_known, traits_of, curve_number, curve_of}
use Rattle.model.specs.Item.{hashed, hashed_length}
use Rattle.model.specs.History.{History, Entry, entry_of}
use Rattle.model.specs.Links.{address_ok}
use Rattle.model.specs.Roll.{Eligibility}
use Rattle.model.specs.Audit.{Outcome, accepted, audit}
use Rattle.model.specs.Report.{report_of, index_rows}
use Rattle.model.specs.Sound.{Shaped, Passed, none, next}
use Rattle.model.proofs.Tests.{and-iff, by-if, same-iff}
use Rattle.model.proofs.Lists.{Every, every_map, every-snoc}
use Rattle.model.proofs.Acceptance.{accepted↔sound}
use Rattle.model.proofs.Tables.{length-index_rows}
use Rattle.model.proofs.Comparison.{length-hashed}
use Rattle.model.proofs.Traits.{known-few}
use Rattle.format.specs.Format.{hashes, format_of, curve_number_of}
use Rattle.planning.specs.Plan.{heads_read, hash_on, blocks_for, sum_of, blocks_at, plan_of, plan}
use Rattle.planning.proofs.Heads.{passed-plan, shaped-read}
use Rattle.planning.proofs.Related.{plan-accepted}

-- ---- the items' addresses

-- an item's address is the hash of its hashed words
abbrev Addressed : Format → Entry → Type 0
Addressed f e = f.hash (hashed e.item) ≡ e.item.address

addressed : {f : Format} {on : Eligibility} {ws vs : List ℕ} {h : History} → Passed f on ws vs h → Every (Addressed f) h
unfolding entry_of address_ok
addressed none = tt
addressed {f} (next ws vs h v i p m) =
    every-snoc (Addressed f) h (entry_of h (length ws) i) (addressed p) ((same-iff (f.hash (hashed i)) i.address).0 m.address)

pub sum_same : {A : Type 0} (g k : A → ℕ) (xs : List A) → Every (λ x. g x ≡ k x) xs → sum_of g xs ≡ sum_of k xs
unfolding sum_of
sum_same g k [] all = refl
sum_same g k (x ∷ xs) all = ap₂ ◌+◌ all.0 (sum_same g k xs all.1)

-- ---- the blocks of a message

-- a message with its padding has so many words
pub blocks-padded : (s : HashFunction) (m : List ℕ) → blocks_for s (length m) ≡ length (m ++ s.padding (length m)) / s.size
unfolding blocks_for
blocks-padded s m = ap (◌/ s.size) (sym (length-append m (s.padding (length m))))

-- in words of 64 bits, 16 a block
halved : (n : ℕ) → n / 32 ≡ n / 2 / 16
halved n = omega arith

pub blocks-halves : (m : List ℕ) → blocks_for sha512_function (length m) ≡ length (sha512.from_halves (sha512.padded m)) / 16
blocks-halves m =
    blocks-padded sha512_function m ∙ halved (length (sha512.padded m)) ∙ ap (◌/ 16) (sym (length_from (sha512.padded m)))

-- ---- of a board whose heads pass

module _ (ws : List ℕ) (h : History) (read : heads_read (format_of ws) ws ≡ accepted h) where
  -- where the curve's hash has these blocks
  sum-blocks : (s : HashFunction) (size : List ℕ → ℕ) → hash_on (curve_number_of ws) ≡ s → ((m : List ℕ) → blocks_for s (length m) ≡ size m)
      → (plan ws).blocks ≡ sum_of (λ e. size (hashed e.item)) h
  unfolding plan_of
  sum-blocks s size hash_is sized =
      let f = format_of ws in
      let blocks = blocks_for (hash_on (curve_number_of ws)) in
      let of : (e : Entry) → Shaped f e.item → blocks_at f blocks e ≡ size (hashed e.item) =
      λ e shaped. ap (λ (k : HashFunction). blocks_for k (hashed_length f (count_of e.item.head))) hash_is
      ∙ ap (blocks_for s) (sym (length-hashed e.item shaped)) ∙ sized (hashed e.item) in
      ap (λ (o : Outcome). (plan_of f blocks o).blocks) read
      ∙ sum_same _ _ h (every_map (λ e. Shaped f e.item) _ of h (shaped-read f ws h read))

  pub blocks-256 : curve_number_of ws ≡ 0 → (plan ws).blocks ≡ sum_of (λ e. length (sha256.padded (hashed e.item)) / 16) h
  unfolding hash_on if◌then◌otherwise◌
  blocks-256 q = sum-blocks sha256_function (λ m. length (sha256.padded m) / 16) (ap hash_on q) (blocks-padded sha256_function)

  pub blocks-384 : curve_number_of ws ≡ 1 → (plan ws).blocks ≡ sum_of (λ e. length (sha512.from_halves (sha512.padded (hashed e.item))) / 16) h
  unfolding hash_on if◌then◌otherwise◌
  blocks-384 q = sum-blocks sha512_function (λ m. length (sha512.from_halves (sha512.padded m)) / 16) (ap hash_on q) blocks-halves

  pub blocks-512 : curve_number_of ws ≡ 2 → (plan ws).blocks ≡ sum_of (λ e. length (sha512.from_halves (sha512.padded (hashed e.item))) / 16) h
  unfolding hash_on if◌then◌otherwise◌
  blocks-512 q = sum-blocks sha512_function (λ m. length (sha512.from_halves (sha512.padded m)) / 16) (ap hash_on q) blocks-halves

-- ---- of an accepted board

module _ (ws vs roll : List ℕ) (index ballots : ℕ) (h : History) (a : audit (format_of ws) ws vs roll index ballots ≡ accepted h) where
  abbrev f : Format
  f = format_of ws

  read : heads_read f ws ≡ accepted h
  read = plan-accepted f ws vs roll index ballots h a

  pub plan-items : ((plan ws).number ≡ 0) × ((plan ws).items ≡ (report_of f (accepted h)).items)
  unfolding report_of
  plan-items = let (number, items, _) = passed-plan ws h read in (number, items)

  pub plan-index : (plan ws).index_words ≡ length (index_rows h 0 h)
  plan-index = let (_, _, words) = passed-plan ws h read in words ∙ sym (length-index_rows h 0 h)

  -- where the curve's hash gives this of a message
  addresses : (hash : List ℕ → List ℕ) → f.hash ≡ hash → Every (λ e. e.item.address ≡ hash (hashed e.item)) h
  addresses hash is =
      every_map (Addressed f) _ (λ e address. sym address ∙ ap (λ (g : List ℕ → List ℕ). g (hashed e.item)) is) h
      (addressed ((accepted↔sound f ws vs roll index ballots h).0 a).0.passed)

  pub plan-256 : curve_number_of ws ≡ 0 → let message : Entry → List ℕ = λ e. sha256.padded (hashed e.item) in
      ((plan ws).blocks ≡ sum_of (λ e. length (message e) / 16) h)
      × Every (λ e. e.item.address ≡ sha256.hash_value (message e) (length (message e) / 16)) h
  unfolding curve_of if◌then◌otherwise◌ sha256.sha256_words
  plan-256 q = (blocks-256 ws h read q, addresses sha256.sha256_words (ap (λ (n : ℕ). (curve_of n).hash hashes) q))

  pub plan-384 : curve_number_of ws ≡ 1 → let message : Entry → List ℕ = λ e. sha512.from_halves (sha512.padded (hashed e.item)) in
      ((plan ws).blocks ≡ sum_of (λ e. length (message e) / 16) h)
      × Every (λ e. e.item.address ≡ sha512.to_halves (take 6 (sha512.hash_value sha512.H0-384 (message e) (length (message e) / 16)))) h
  unfolding curve_of if◌then◌otherwise◌ sha512.sha384_words sha512.hash_words
  plan-384 q = (blocks-384 ws h read q, addresses sha512.sha384_words (ap (λ (n : ℕ). (curve_of n).hash hashes) q))

  pub plan-512 : curve_number_of ws ≡ 2 → let message : Entry → List ℕ = λ e. sha512.from_halves (sha512.padded (hashed e.item)) in
      ((plan ws).blocks ≡ sum_of (λ e. length (message e) / 16) h)
      × Every (λ e. e.item.address ≡ sha512.to_halves (sha512.hash_value sha512.H0-512 (message e) (length (message e) / 16))) h
  unfolding curve_of if◌then◌otherwise◌ sha512.sha512_words sha512.hash_words
  plan-512 q = (blocks-512 ws h read q, addresses sha512.sha512_words (ap (λ (n : ℕ). (curve_of n).hash hashes) q))

-- traits that are in force name one of the three curves
few-curves : (t : ℕ) → t < 6 → curve_number t < 3
few-curves t l = omega arith

pub plan-curves : (ws : List ℕ) → curve_number_of ws < 3
unfolding traits_of
plan-curves ws =
    let t = get_or ws traits_place 0 in
    by-if (λ (n : ℕ). curve_number n < 3) (eqb (get_or ws 0 0) traits_head && traits_known t) t 0
    (λ b. few-curves t ((known-few t).0 ((and-iff (eqb (get_or ws 0 0) traits_head) (traits_known t)).0 b).1)) (λ b. omega arith)
