-- The first reason that applies: there is one or none applies, and it has one number. Paper: "The first that applies is the answer."
-- Assumes nothing.
use Prim.Native.Nat.{ℕ}
use mathlib.Core.Path.{◌≡◌, refl, ap, subst, ◌∙◌}
use mathlib.Core.List.{List, [], ◌∷◌, ◌++◌, append_assoc}
use lib.Dec.{T}
use Rattle.model.specs.Lists.{if◌then◌otherwise◌, any}
use Rattle.model.specs.Refusal.{no_fault}
use Rattle.model.specs.Reasons.{Reason, NoneOf, FirstOf}
use Rattle.model.proofs.Tests.{by-test, neither, if_yes}
use Rattle.model.proofs.Lists.{Every, any_append}

-- its number, 0 where none applies
unfoldable pub first_number : List Reason → ℕ
unfolding if◌then◌otherwise◌
first_number [] = no_fault
first_number (r ∷ rs) = if r.applies then r.number otherwise first_number rs

-- none applies, or one is the first
pub by_first : {X : Type 0} (rs : List Reason) → (NoneOf rs → X) → ((n : ℕ) → FirstOf rs n → X) → X
unfolding any
by_first [] unmet found = unmet tt
by_first (r ∷ rs) unmet found =
    by-test r.applies
    (λ q. found r.number (record { earlier = []; reason = r; later = rs; listed = refl; no_earlier = tt; applies = rw q tt; number = refl }))
    (λ q. by_first rs (λ u. unmet (rw q u)) λ n s. found n (record {
      earlier = r ∷ s.earlier;
      reason = s.reason;
      later = s.later;
      listed = ap (r ∷◌) s.listed;
      no_earlier = rw q s.no_earlier;
      applies = s.applies;
      number = s.number;
    }))

pub none_number : (rs : List Reason) → NoneOf rs → first_number rs ≡ no_fault
unfolding any first_number
none_number [] u = refl
none_number (r ∷ rs) u = by-test r.applies (λ q. absurd (rw q at u)) (λ q. rw q (none_number rs (rw q at u)))

number_append : (es : List Reason) (r : Reason) (rs : List Reason) → NoneOf es → T r.applies → first_number (es ++ (r ∷ rs)) ≡ r.number
unfolding any first_number
number_append [] r rs u t = if_yes r.applies _ _ t
number_append (e ∷ es) r rs u t = by-test e.applies (λ q. absurd (rw q at u)) (λ q. rw q (number_append es r rs (rw q at u) t))

pub first-number : {rs : List Reason} {n : ℕ} → FirstOf rs n → first_number rs ≡ n
first-number s = rw s.listed (number_append s.earlier s.reason s.later s.no_earlier s.applies ∙ s.number)

every-middle : {A : Type 0} (P : A → Type 0) (xs : List A) (y : A) (ys : List A) → Every P (xs ++ (y ∷ ys)) → P y
every-middle P [] y ys all = all.0
every-middle P (x ∷ xs) y ys all = every-middle P xs y ys all.1

-- what holds of every number holds of the first
pub every_first : (P : ℕ → Type 0) {rs : List Reason} {n : ℕ} → Every (λ r. P r.number) rs → FirstOf rs n → P n
every_first P all s =
    rw s.number at (every-middle (λ r. P r.number) s.earlier s.reason s.later (rw s.listed at all))

-- ---- more reasons behind

-- the first stays the first
pub first-before : {rs : List Reason} {n : ℕ} (more : List Reason) → FirstOf rs n → FirstOf (rs ++ more) n
first-before more s = record {
  earlier = s.earlier;
  reason = s.reason;
  later = s.later ++ more;
  listed = ap (◌++ more) s.listed ∙ append_assoc s.earlier (s.reason ∷ s.later) more;
  no_earlier = s.no_earlier;
  applies = s.applies;
  number = s.number;
}

-- where none applies, the first is one of those behind
pub number_behind : (rs more : List Reason) → NoneOf rs → first_number (rs ++ more) ≡ first_number more
unfolding any first_number
number_behind [] more u = refl
number_behind (r ∷ rs) more u = by-test r.applies (λ q. absurd (rw q at u)) (λ q. rw q (number_behind rs more (rw q at u)))

pub none_before : (all rs more : List Reason) → all ≡ rs ++ more → NoneOf all → NoneOf rs
none_before all rs more e u =
    ((neither (any (λ r. r.applies) rs) (any (λ r. r.applies) more)).0 (rw (any_append (λ r. r.applies) rs more) at (subst NoneOf e u))).0
