-- The contests that a type 3 has defined so far, as a set: what the code keeps in place of the list of definitions; and the rules on contests
-- as inclusions of sets. Paper: "Content", request (v). Assumes nothing.
use Prim.Native.Nat.{ℕ, ◌*◌, ◌/◌, ◌%◌, ◌^◌, ◌≤◌, ◌<◌}
use native.Mathlib.Nat.{div-add-mod'}
use native.Mathlib.Omega.{arith}
use mathlib.Core.Path.{◌≡◌, refl, sym, ◌∙◌}
use mathlib.Core.Bool.{◌&&◌, ◌||◌, or-false, or_assoc}
use mathlib.Core.List.{List, [], ◌∷◌, ◌++◌}
use lib.Dec.{eqb}
use lib.ListN.{length, get_or}
use borrow.Author.Tests.{eqb-true, eqb-false, eq-eqb, ne_eqb}
use Rattle.model.specs.Lists.{if◌then◌otherwise◌, any}
use Rattle.model.specs.Words.{set_bits, bit, in_words, member, all_in}
use Rattle.model.specs.Codes.{contest_type}
use Rattle.model.specs.Item.{word}
use Rattle.model.specs.History.{History, Entry, typed}
use Rattle.model.specs.Phase.{rounds}
use Rattle.model.specs.Content.{defines, enables}
use Rattle.model.proofs.Tests.{by-test, all_in-ext}
use Rattle.model.proofs.Lists.{Every}
use Rattle.model.proofs.Sets.{bit-zero}
use Rattle.sets.proofs.Bits.{bit-one, bit-or}
use Rattle.state.specs.After.{contests_after}
use Rattle.state.specs.Standing.{set_limit, enabled_word, defined_from, defined_word}
use Rattle.state.proofs.Rounds.{RoundSmall, member-enabled}

-- ---- the set

from-snoc : (k w : ℕ) (es : List Entry) (e : Entry) → defined_from k w (es ++ (e ∷ [])) ≡ contests_after k (defined_from k w es) e.item
unfolding defined_from
from-snoc k w [] e = refl
from-snoc k w (x ∷ es) e = from-snoc k (contests_after k w x.item) es e

pub defined_word-snoc : (h : History) (e : Entry) (k : ℕ) → defined_word (h ++ (e ∷ [])) k ≡ contests_after k (defined_word h k) e.item
unfolding defined_word
defined_word-snoc h e k = from-snoc k 0 h e

-- ---- its members

-- a number by its word and its bit there
eqb-digits : (m n : ℕ) → eqb m n ≡ (eqb (m / 32) (n / 32) && eqb (m % 32) (n % 32))
eqb-digits m n =
    by-test (eqb m n)
    (λ q. rw (eqb-true m n q, eq-eqb n n refl, eq-eqb (n / 32) (n / 32) refl, eq-eqb (n % 32) (n % 32) refl))
    (λ q. rw q (by-test (eqb (m / 32) (n / 32))
    (λ r. rw r (sym (ne_eqb (m % 32) (n % 32) (λ e. eqb-false m n q (omega (arith, eqb-true (m / 32) (n / 32) r, div-add-mod' m 32, div-add-mod' n 32))))))
    (λ r. rw r)))

member-with : (w j : ℕ) (e : Entry) → bit (contests_after (j / 32) w e.item) (j % 32) ≡ (bit w (j % 32) || defines j e)
unfolding contests_after if◌then◌otherwise◌
member-with w j e =
    let n = word 0 e.item in
    rw (eqb-digits n j)
    (by-test (typed contest_type e)
    (λ q. rw q (by-test (eqb (n / 32) (j / 32))
    (λ r. rw (r, bit-or w (2 ^ (n % 32)) (j % 32), bit-one (n % 32) (j % 32)))
    (λ r. rw (r, or-false))))
    (λ q. rw (q, or-false)))

member-from : (w j : ℕ) (es : List Entry) → bit (defined_from (j / 32) w es) (j % 32) ≡ (bit w (j % 32) || any (defines j) es)
unfolding any defined_from
member-from w j [] = sym (or-false (bit w (j % 32)))
member-from w j (e ∷ es) = member-from (contests_after (j / 32) w e.item) j es ∙ rw (member-with w j e, or_assoc)

pub member-defined : (h : History) (j : ℕ) → in_words (defined_word h) j ≡ any (defines j) h
unfolding defined_word in_words
member-defined h j = member-from 0 j h ∙ rw (bit-zero (j % 32))

-- ---- the rules: a set within an array that holds these words

in_array : (c : List ℕ) (v : ℕ → ℕ) → ((k : ℕ) → k < set_limit → get_or c k 0 ≡ v k) → (j : ℕ) → j < set_bits * set_limit → member c j ≡ in_words v j
unfolding in_words
in_array c v same j l = rw (same (j / 32) (omega arith))

module _ (h : History) (c s : List ℕ) (words : length s ≤ set_limit) where
  -- contests of a round or of a session: all are defined
  pub within-defined : ((k : ℕ) → k < set_limit → get_or c k 0 ≡ defined_word h k) → all_in s (member c) ≡ all_in s (λ j. any (defines j) h)
  within-defined same =
      all_in-ext s (member c) (λ j. any (defines j) h)
      (λ j l t. in_array c (defined_word h) same j (omega arith) ∙ member-defined h j)

  -- contests of a ballot: an open round enables all
  pub within-enabled : (t : ℕ) → Every RoundSmall h → ((k : ℕ) → k < set_limit → get_or c k 0 ≡ enabled_word t h k)
      → all_in s (member c) ≡ all_in s (λ j. any (enables t j) (rounds h))
  within-enabled t small same =
      all_in-ext s (member c) (λ j. any (enables t j) (rounds h))
      (λ j l u. in_array c (enabled_word t h) same j (omega arith) ∙ member-enabled t h j small)
