-- The formats of boards: three curves and two widths of sets, their sizes, and that a board's depends on its first 19 words.
-- Paper: requests (v) and (ix). Assumes nothing.
use Prim.Native.Nat.{ℕ, zero, suc, ◌+◌, ◌%◌, ◌≤◌, ◌<◌}
use native.Mathlib.Omega.{arith}
use native.Mathlib.Decide.{dec_lt}
use mathlib.Core.Path.{◌≡◌, refl, sym, ap, ◌∙◌}
use mathlib.Core.Logic.{◌≢◌, ◌↔◌, by_cases}
use mathlib.Core.Bool.{◌&&◌}
use mathlib.Core.List.{List, [], ◌∷◌, ◌++◌}
use lib.Dec.{T, eqb}
use lib.ListN.{length, get_or, take, get_or-eq_default}
use lib.Seq.{get_or-take, take-append_seam}
use borrow.Author.Tests.{eq-eqb}
use Rattle.model.specs.Lists.{if◌then◌otherwise◌}
use Rattle.model.specs.Format.{Format, Hashes, Curve, secp256r1, secp384r1, secp521r1, format_on}
use Rattle.model.specs.Traits.{traits_head, traits_place, set_words, curve_number, curve_of, traits_known, traits_of, format_with, format_of}
use Rattle.model.specs.Item.{item_length, hashed_length}
use Rattle.model.specs.Program.{program_limit, least_item}
use Rattle.model.proofs.Tests.{by-if, is_true, facts}

-- ---- the traits that are known, and those in force

known-low : (t : ℕ) → T (traits_known t) → t < 6
unfolding traits_known
known-low t k = let (high, other) = simp facts at k in omega arith

low-known : (t : ℕ) → t < 6 → T (traits_known t)
unfolding traits_known
low-known t l = simp facts (omega arith, λ q. omega arith)

pub known-few : (t : ℕ) → T (traits_known t) ↔ (t < 6)
known-few t = (known-low t, low-known t)

pub traits-read : (ws : List ℕ) → get_or ws 0 0 ≡ traits_head → get_or ws traits_place 0 < 6 → traits_of ws ≡ get_or ws traits_place 0
unfolding traits_of if◌then◌otherwise◌
traits-read ws head few =
    let t = get_or ws traits_place 0 in
    rw (eq-eqb (get_or ws 0 0) traits_head head, is_true (traits_known t) (low-known t few))

pub traits-none : (ws : List ℕ) → (get_or ws 0 0 ≡ traits_head → 6 ≤ get_or ws traits_place 0) → traits_of ws ≡ 0
unfolding traits_of
traits-none ws n =
    let t = get_or ws traits_place 0 in
    by-if (λ (r : ℕ). r ≡ 0) (eqb (get_or ws 0 0) traits_head && traits_known t) t 0
    (λ b. let (head, known) = simp facts at b in
    let low = known-low t known in
    let high = n head in
    absurd (omega arith))
    (λ b. refl)

-- the formats of the traits that are known, in their order
abbrev pub formats : Hashes → List Format
formats s =
    format_on s secp256r1 1 ∷ format_on s secp256r1 8 ∷ format_on s secp384r1 1 ∷ format_on s secp384r1 8 ∷ format_on s secp521r1 1 ∷ format_on s secp521r1 8 ∷ []

with-traits : (s : Hashes) (t : ℕ) → t < 6 → format_with s t ≡ get_or (formats s) t (format_on s secp256r1 1)
unfolding curve_of set_words if◌then◌otherwise◌
with-traits s zero l = refl
with-traits s (suc zero) l = refl
with-traits s (suc (suc zero)) l = refl
with-traits s (suc (suc (suc zero))) l = refl
with-traits s (suc (suc (suc (suc zero)))) l = refl
with-traits s (suc (suc (suc (suc (suc zero))))) l = refl
with-traits s (suc (suc (suc (suc (suc (suc t)))))) l = absurd (omega arith)

module _ (s : Hashes) (ws : List ℕ) where
  pub board-format : get_or ws 0 0 ≡ traits_head → format_of s ws ≡ get_or (formats s) (get_or ws traits_place 0) (format_on s secp256r1 1)
  unfolding curve_of set_words if◌then◌otherwise◌
  board-format head =
      let t = get_or ws traits_place 0 in
      by_cases (dec_lt t 6)
      (λ l. ap (format_with s) (traits-read ws head l) ∙ with-traits s t l)
      (λ l. let past : length (formats s) ≤ t = omega arith in
      ap (format_with s) (traits-none ws (λ h. omega arith)) ∙ sym (get_or-eq_default (formats s) (format_on s secp256r1 1) past))

  pub other-board : get_or ws 0 0 ≢ traits_head → format_of s ws ≡ format_on s secp256r1 1
  unfolding curve_of set_words if◌then◌otherwise◌
  other-board n = ap (format_with s) (traits-none ws (λ h. absurd (n h)))

-- ---- so there are three curves and two widths of sets

-- what holds of each curve holds of the one that a number chooses
pub by-curve {ℓ} : (P : Curve → Type ℓ) → P secp256r1 → P secp384r1 → P secp521r1 → (n : ℕ) → P (curve_of n)
unfolding curve_of
by-curve P a b c n = by-if P (eqb n 1) secp384r1 _ (λ p. b) (λ p. by-if P (eqb n 2) secp521r1 secp256r1 (λ q. c) (λ q. a))

by-sets {ℓ} : (P : ℕ → Type ℓ) → P 1 → P 8 → (t : ℕ) → P (set_words t)
unfolding set_words
by-sets P one eight t = by-if P (eqb (t % 2) 1) 8 1 (λ q. eight) (λ q. one)

-- so what holds of the six formats holds of every board's
pub by-formats {ℓ} : (s : Hashes) (P : Format → Type ℓ)
    → P (format_on s secp256r1 1) → P (format_on s secp256r1 8) → P (format_on s secp384r1 1) → P (format_on s secp384r1 8)
    → P (format_on s secp521r1 1) → P (format_on s secp521r1 8) → (ws : List ℕ) → P (format_of s ws)
by-formats s P a b c d e f ws =
    let t = traits_of ws in
    by-curve (λ (k : Curve). P (format_on s k (set_words t)))
    (by-sets (λ w. P (format_on s secp256r1 w)) a b t)
    (by-sets (λ w. P (format_on s secp384r1 w)) c d t)
    (by-sets (λ w. P (format_on s secp521r1 w)) e f t)
    (curve_number t)

-- how long and how short each part may be
pub record Sizes (f : Format) : Type 0 where
  pub address : (8 ≤ f.address) × (f.address ≤ 16)
  pub signature : (16 ≤ f.signature) × (f.signature ≤ 33)
  pub commitment : (9 ≤ f.commitment) × (f.commitment ≤ 17)
  pub cryptogram : (17 ≤ f.cryptogram) × (f.cryptogram ≤ 34)
  pub sets : (1 ≤ f.sets) × (f.sets ≤ 8)

module _ (s : Hashes) (ws : List ℕ) where
  pub sizes : Sizes (format_of s ws)
  sizes =
      let n = curve_number (traits_of ws) in
      record {
        address = by-curve (λ (c : Curve). (8 ≤ c.address) × (c.address ≤ 16)) (omega arith, omega arith) (omega arith, omega arith) (omega arith, omega arith) n;
        signature = by-curve (λ (c : Curve). (16 ≤ c.signature) × (c.signature ≤ 33)) (omega arith, omega arith) (omega arith, omega arith) (omega arith, omega arith) n;
        commitment = by-curve (λ (c : Curve). (9 ≤ c.commitment) × (c.commitment ≤ 17)) (omega arith, omega arith) (omega arith, omega arith) (omega arith, omega arith) n;
        cryptogram = by-curve (λ (c : Curve). (17 ≤ c.cryptogram) × (c.cryptogram ≤ 34)) (omega arith, omega arith) (omega arith, omega arith) (omega arith, omega arith) n;
        sets = by-sets (λ n. (1 ≤ n) × (n ≤ 8)) (omega arith, omega arith) (omega arith, omega arith) (traits_of ws);
      }

  -- an item has at least 43 words, and a board of genesis alone fits the program
  pub least-item : least_item ≤ item_length (format_of s ws) 0
  unfolding item_length
  least-item = let b = sizes in omega arith

  pub genesis-fits : item_length (format_of s ws) 18 < program_limit
  unfolding item_length
  genesis-fits = let b = sizes in omega arith

-- the words of an item with n content words, and how many of them are hashed, on each curve
module _ (s : Hashes) (w n : ℕ) where
  pub item-lengths : (item_length (format_on s secp256r1 w) n ≡ n + 43) × (item_length (format_on s secp384r1 w) n ≡ n + 63)
      × (item_length (format_on s secp521r1 w) n ≡ n + 84)
  unfolding item_length
  item-lengths = (omega arith, omega arith, omega arith)

  pub hashed-lengths : (hashed_length (format_on s secp256r1 w) n ≡ n + 19) × (hashed_length (format_on s secp384r1 w) n ≡ n + 27)
      × (hashed_length (format_on s secp521r1 w) n ≡ n + 35)
  unfolding hashed_length
  hashed-lengths = (omega arith, omega arith, omega arith)

-- ---- one hash for each address width

-- a curve's hash is told by its address width
hash-told : (s : Hashes) (n : ℕ) → let c = curve_of n in
    c.hash s ≡ (if eqb c.address 12 then s.sha384 otherwise if eqb c.address 16 then s.sha512 otherwise s.sha256)
unfolding if◌then◌otherwise◌
hash-told s = by-curve (λ (c : Curve). c.hash s ≡ (if eqb c.address 12 then s.sha384 otherwise if eqb c.address 16 then s.sha512 otherwise s.sha256)) refl refl refl

pub one-hash : (s : Hashes) (ws us : List ℕ) → (format_of s ws).address ≡ (format_of s us).address → (format_of s ws).hash ≡ (format_of s us).hash
one-hash s ws us e =
    hash-told s (curve_number (traits_of ws))
    ∙ ap (λ (n : ℕ). if eqb n 12 then s.sha384 otherwise if eqb n 16 then s.sha512 otherwise s.sha256) e
    ∙ sym (hash-told s (curve_number (traits_of us)))

-- ---- the format depends on the first 19 words

pub format-take : (s : Hashes) (n : ℕ) (ws : List ℕ) → traits_place < n → format_of s (take n ws) ≡ format_of s ws
unfolding traits_of
format-take s n ws l =
    let one : 0 < n = omega arith in
    rw (get_or-take n ws 0 0 one, get_or-take n ws traits_place 0 l)

-- so boards that begin with the same words, more than 18 of them, have one format
pub format-front : (s : Hashes) (xs ys zs : List ℕ) → traits_place < length xs → format_of s (xs ++ ys) ≡ format_of s (xs ++ zs)
format-front s xs ys zs l =
    sym (format-take s (length xs) (xs ++ ys) l) ∙ ap (format_of s) (take-append_seam xs ys ∙ sym (take-append_seam xs zs))
    ∙ format-take s (length xs) (xs ++ zs) l
