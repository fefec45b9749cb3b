-- What a running audit keeps of the items so far, in place of searching for it: the round in force under each number, and the contests that
-- are defined, as a set, word by word; `Stands` says that the state is these. And what follows from the rounds: the contests that those open at a time
-- enable. The laws that the rules can be tested by them are in proofs/. Paper: "Phases", "Content". Assumes nothing.
use Rattle.std.specs.Prelude.{ℕ, zero, suc, Bool, false, not, ◌&&◌, ◌||◌, List, [], ◌∷◌, get_or, eqb}
use Rattle.std.specs.Int.Bits.{bit_or}
use Rattle.model.specs.Lists.{if◌then◌otherwise◌}
use Rattle.model.specs.Codes.{round_type}
use Rattle.model.specs.History.{History, Entry, item_no, last, typed}
use Rattle.model.specs.Phase.{round_number, round_contests, is_open}
use Rattle.state.specs.After.{contests_after}

-- ---- numbers below n: whether any passes a test, and the union of their words

unfoldable pub any_below : ℕ → (ℕ → Bool) → Bool
any_below zero p = false
any_below (suc n) p = p n || any_below n p

unfoldable pub union_below : ℕ → (ℕ → ℕ) → ℕ
union_below zero f = 0
union_below (suc n) f = bit_or (union_below n f) (f n)

-- ---- rounds

-- a round with the number j
abbrev pub numbered : ℕ → Entry → Bool
numbered j e = typed round_type e && eqb (round_number e.item) j

-- the item number of the round in force with the number j, 0 if there is none
abbrev pub round_at : History → ℕ → ℕ
round_at h j = last (numbered j) h

-- "number 0..15"
abbrev pub slots : ℕ
slots = 16

-- word k of the contests of the round with the number j, where there is one and it is open at the time t
unfoldable pub open_word : ℕ → History → ℕ → ℕ → ℕ
unfolding if◌then◌otherwise◌
open_word t h k j =
    let r = item_no h (round_at h j) in
    if not (eqb (round_at h j) 0) && is_open t r then get_or (round_contests r) k 0 otherwise 0

-- word k of the contests that the rounds open at the time t enable
unfoldable pub enabled_word : ℕ → History → ℕ → ℕ
enabled_word t h k = union_below slots (open_word t h k)

-- ---- contests

-- the words of the widest set
abbrev pub set_limit : ℕ
set_limit = 8

-- word k of a set, w, with the contests that some entries define
unfoldable pub defined_from : ℕ → ℕ → List Entry → ℕ
defined_from k w [] = w
defined_from k w (e ∷ es) = defined_from k (contests_after k w e.item) es

-- word k of the contests that a type 3 defined
unfoldable pub defined_word : History → ℕ → ℕ
defined_word h k = defined_from k 0 h
