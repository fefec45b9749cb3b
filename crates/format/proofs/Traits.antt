-- Laws of a board's traits, as the code finds them, and of its widths. Paper: requests (v), (ix). Assumes nothing.
use Prim.Native.Nat.{ℕ, ◌%◌, ◌^◌, ◌≤◌}
use mathlib.Core.Path.{◌≡◌, ap}
use mathlib.Core.Logic.{◌≢◌}
use mathlib.Core.Bool.{true, false, and-false}
use mathlib.Core.List.{List}
use lib.Dec.{eqb, ltb}
use lib.ListN.{length, get_or, get_or-eq_default}
use borrow.Author.Tests.{eq-eqb, ne_eqb}
use Rattle.model.specs.Lists.{if◌then◌otherwise◌}
use Rattle.model.specs.Traits.{traits_head, traits_place, traits_known, traits_of, set_words}
use Rattle.model.proofs.Tests.{by-test, is_true, is_false, leb-iff}
use Rattle.model.proofs.Traits as traits
use Rattle.model.proofs.Traits.{Sizes, known-few}
use Rattle.format.specs.Format.{hashes, format_of, curve_number_of, widths_of}
use Rattle.format.specs.declared.format.Format.{Format}

-- the known ones are below 6
pub known-below : (t : ℕ) → ltb t 6 ≡ traits_known t
known-below t =
    by-test (ltb t 6)
    (λ q. rw (q, is_true (traits_known t) ((known-few t).1 ((leb-iff _ _).0 (rw q tt)))))
    (λ q. rw (q, is_false (traits_known t) (λ k. absurd (rw q at ((leb-iff _ _).1 ((known-few t).0 k))))))

module _ (ws : List ℕ) where
  -- no traits word, another first word, or a word that is not known
  pub traits-short : length ws ≤ traits_place → 0 ≡ traits_of ws
  unfolding traits_of if◌then◌otherwise◌
  traits-short l =
      rw (get_or-eq_default ws 0 l)
      (by-test (eqb (get_or ws 0 0) traits_head) (λ q. rw q (by-test (traits_known 0) (λ k. rw k) (λ k. rw k))) (λ q. rw q))

  pub traits-headless : get_or ws 0 0 ≢ traits_head → 0 ≡ traits_of ws
  unfolding traits_of if◌then◌otherwise◌
  traits-headless n = rw (ne_eqb (get_or ws 0 0) traits_head n)

  pub traits-unknown : traits_known (get_or ws traits_place 0) ≡ false → 0 ≡ traits_of ws
  unfolding traits_of if◌then◌otherwise◌
  traits-unknown q = rw (q, and-false)

  pub traits-known : get_or ws 0 0 ≡ traits_head → traits_known (get_or ws traits_place 0) ≡ true → get_or ws traits_place 0 ≡ traits_of ws
  unfolding traits_of if◌then◌otherwise◌
  traits-known p q = rw (eq-eqb (get_or ws 0 0) traits_head p, q)

  -- the least and the most words of each part
  pub sizes : Sizes (format_of ws)
  sizes = traits.sizes hashes ws

  pub sets-few : (1 ≤ (format_of ws).sets) × ((format_of ws).sets ≤ 8)
  sets-few = sizes.sets

-- the words of a set
pub sets-wide : (t : ℕ) → t % 2 ≡ 1 → 8 ≡ set_words t
unfolding set_words if◌then◌otherwise◌
sets-wide t q = rw (eq-eqb (t % 2) 1 q)

pub sets-narrow : (t : ℕ) → t % 2 ≢ 1 → 1 ≡ set_words t
unfolding set_words if◌then◌otherwise◌
sets-narrow t n = rw (ne_eqb (t % 2) 1 n)

-- what the code knows of a board's format, part by part
pub record Knows (ws : List ℕ) (f : Format) : Type 0 where
  pub curve : f.curve ≡ curve_number_of ws
  pub address : f.address ≡ (format_of ws).address
  pub signature : f.signature ≡ (format_of ws).signature
  pub commitment : f.commitment ≡ (format_of ws).commitment
  pub unit : f.unit ≡ 2 ^ (format_of ws).spare
  pub cryptogram : f.cryptogram ≡ (format_of ws).cryptogram
  pub sets : f.sets ≡ (format_of ws).sets

pub knows : {ws : List ℕ} {f : Format} → f ≡ widths_of ws → Knows ws f
knows e = record {
  curve = ap (λ (f : Format). f.curve) e;
  address = ap (λ (f : Format). f.address) e;
  signature = ap (λ (f : Format). f.signature) e;
  commitment = ap (λ (f : Format). f.commitment) e;
  unit = ap (λ (f : Format). f.unit) e;
  cryptogram = ap (λ (f : Format). f.cryptogram) e;
  sets = ap (λ (f : Format). f.sets) e;
}
