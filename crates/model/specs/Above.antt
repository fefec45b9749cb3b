-- An entry above the audit: what it refuses before the audit, what it answers by the audit's outcome, and what a buffer that it writes holds
-- after it. The page of each such entry gives the parts, so what holds of any refusal is one law.
-- Paper: "Comparing takes a kept board", "One entry lists an item's ancestry", requests (ii) and (vi). Assumes nothing.
use Rattle.std.specs.Prelude.{ℕ, zero, suc, ◌/◌, ◌%◌, Bool, not, ◌||◌, List, length, eqb, ltb}
use Rattle.model.specs.History.{History}
use Rattle.model.specs.Audit.{Outcome, unread, refused, accepted, Check, first_unmet}

-- a refusal "before the audit" changes no buffer; without one the outcome is the audit's
abbrev pub unless_refused : ℕ → Outcome → Outcome
unless_refused zero audited = audited
unless_refused (suc n) audited = unread (suc n)

-- the entry's own checks in their order, and then the audit
unfoldable pub checked_first : List Check → Outcome → Outcome
checked_first own audited = unless_refused (first_unmet own) audited

-- of words that are given beside the board, in parts of one size: they are not whole parts, or too many
abbrev pub is_bad_run : (size limit : ℕ) → List ℕ → Bool
is_bad_run size limit ws = not (eqb (length ws % size) 0) || ltb limit (length ws / size)

-- the answer: a refusal with its number and the items passed, or what is asked of the accepted board
abbrev pub answered : {A : Type 0} → (refusal : ℕ → ℕ → A) → (asked : History → A) → Outcome → A
answered refusal asked (unread n) = refusal n 0
answered refusal asked (refused n k) = refusal n k
answered refusal asked (accepted h) = asked h

-- a buffer that "any refusal leaves .. unchanged": what it held, and of an accepted board what is made of that
unfoldable pub buffer_after : Outcome → (made : History → List ℕ → List ℕ) → List ℕ → List ℕ
buffer_after (unread n) made s = s
buffer_after (refused n k) made s = s
buffer_after (accepted h) made s = made h s
