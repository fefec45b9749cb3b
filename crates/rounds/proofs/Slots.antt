-- The sixteen slots of the state: each holds the round in force with its number, so a loop over them asks every round in force.
-- Assumes nothing.
use Prim.Native.Nat.{ℕ, zero, suc, ◌+◌, ◌≤◌, ◌<◌}
use native.Mathlib.Omega.{arith}
use mathlib.Core.Path.{◌≡◌, refl, sym, ap, ◌∙◌}
use mathlib.Core.Bool.{Bool, ◌||◌, or-true}
use Rattle.std.specs.List.{list_any}
use mathlib.Core.List.{List, [], ◌∷◌}
use lib.Bits.{bit_or}
use lib.ListN.{length, get_or, replicate, get_or-replicate}
use lib.Dec.{T, eqb, eqb→eq}
use borrow.Author.Tests.{ne_eqb}
use Rattle.model.specs.Lists.{any}
use Rattle.model.specs.Codes.{round_type}
use Rattle.model.specs.Item.{code}
use Rattle.model.specs.History.{History, entry, item_no, typed}
use Rattle.model.specs.Phase.{rounds, is_open, round_number}
use Rattle.model.proofs.Tests.{by-test, and-iff}
use Rattle.model.proofs.Lists.{every}
use Rattle.model.proofs.Numbers.{last_found}
use Rattle.model.proofs.State.{any_last}
use Rattle.index.specs.Kept.{before, Kept}
use Rattle.state.specs.Standing.{any_below, union_below, numbered, round_at, open_word, enabled_word}
use Rattle.state.specs.declared.State.{State}
use Rattle.state.specs.Stands.{Stands}
use Rattle.state.proofs.Rounds.{any_below-ext, union_below-next, round_at-bound, any-rounds, rounds-small}
use Rattle.rounds.specs.Open.{InForce, open_under, word_under}

-- the round in force with the number j is a round
pub force-at : (h : History) (j : ℕ) → InForce h (round_at h j)
force-at h j =
    let k = round_at h j in
    record {
      bound = round_at-bound h j;
      round = λ l.
          let some : T (any (numbered j) h) = rw (any_last (numbered j) h, ne_eqb k 0 (λ q. omega arith)) tt in
          let found = (last_found (numbered j) (λ e. Unit) h (every (λ e. Unit) (λ e. tt) h) some).0 in
          eqb→eq (code (item_no h k)) round_type ((and-iff (typed round_type (entry h k)) (eqb (round_number (item_no h k)) j)).0 found).0;
    }

-- an array holds the contests of the open rounds in the slots below j
abbrev pub Enabled : ℕ → History → ℕ → List ℕ → Type 0
Enabled t h j set = (i : ℕ) → i < 8 → get_or set i 0 ≡ union_below j (open_word t h i)

pub enabled-none : (t : ℕ) (h : History) → Enabled t h 0 (replicate 8 0)
unfolding union_below
enabled-none t h i l = get_or-replicate 8 i 0 0 l

word-slot : (t : ℕ) (h : History) (i j : ℕ) → open_word t h i j ≡ word_under t h i (round_at h j)
unfolding open_word word_under open_under
word-slot t h i j = refl

pub enabled-all : (t : ℕ) (h : History) (j : ℕ) (set : List ℕ) → j ≤ 16 → 16 ≤ j → Enabled t h j set
    → (i : ℕ) → i < 8 → get_or set i 0 ≡ enabled_word t h i
unfolding enabled_word
enabled-all t h j set l m is i few = let all : j ≡ 16 = omega arith in is i few ∙ rw all

-- ---- the slots' words as a list

any_below-first : (n : ℕ) (p : ℕ → Bool) → any_below (suc n) p ≡ (p 0 || any_below n (λ i. p (suc i)))
unfolding any_below
any_below-first zero p = refl
any_below-first (suc n) p = rw (any_below-first n p) (by-test (p 0) (λ q. rw (q, or-true)) (λ q. rw q))

any_below-list : (p : ℕ → Bool) (xs : List ℕ) → list_any p xs ≡ any_below (length xs) (λ i. p (get_or xs i 0))
unfolding any_below
any_below-list p [] = refl
any_below-list p (x ∷ xs) = rw (any_below-list p xs) (sym (any_below-first (length xs) (λ i. p (get_or (x ∷ xs) i 0))))

-- whether one of the rounds in force is open, by the item numbers in the slots
pub open-slots : {board index : List ℕ} {s : State} → Kept board index s.items → Stands board s → (t : ℕ) → length s.rounds ≡ 16
    → list_any (open_under t (before board s.items)) s.rounds ≡ any (is_open t) (rounds (before board s.items))
unfolding open_under
open-slots {board} {index} {s} kept a t size =
    let h = before board s.items in
    any_below-list (open_under t h) s.rounds
    ∙ rw size (any_below-ext 16 (λ i. open_under t h (get_or s.rounds i 0)) (λ i. open_under t h (round_at h i)) (λ j l. ap (open_under t h) (a.rounds j l)))
    ∙ sym (any-rounds (is_open t) h (rounds-small kept.passed))

-- ---- a turn of the loop: slot j holds the item number k

module _ {board index : List ℕ} {s : State} (kept : Kept board index s.items) (a : Stands board s)
    (j k : ℕ) (l : j < 16) (is : k ≡ get_or s.rounds j 0) where
  abbrev h : History
  h = before board s.items

  slot : k ≡ round_at h j
  slot = is ∙ a.rounds j l

  pub force-in : InForce h k
  force-in = rw slot (force-at h j)

  module _ (t : ℕ) where
    pub enabled-next : (old new : List ℕ) → Enabled t h j old → ((i : ℕ) → i < 8 → get_or new i 0 ≡ bit_or (get_or old i 0) (word_under t h i k))
        → Enabled t h (j + 1) new
    enabled-next old new p q i few = q i few ∙ rw (p i few, union_below-next (open_word t h i) j, word-slot t h i j, ← slot)
