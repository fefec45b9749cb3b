-- Entries above the audit: their own checks come first, which words in parts of one size are refused, and what a refusal leaves of a buffer.
-- Assumes nothing.
use Prim.Native.Nat.{ℕ, suc, ◌+◌, ◌*◌, ◌/◌, ◌%◌, ◌≤◌, ◌<◌}
use native.Mathlib.Nat.{add-zero, mul-mod_left, mul-div_cancel, div-add-mod'}
use native.Mathlib.Omega.{arith}
use mathlib.Core.Path.{◌≡◌, refl, sym, ap, subst, ◌∙◌}
use mathlib.Core.Logic.{◌↔◌}
use mathlib.Core.Bool.{Bool, not}
use mathlib.Core.List.{List, [], ◌∷◌}
use lib.Arith.{le→nltb}
use lib.ListN.{length}
use lib.Dec.{T, not_T, eqb, ltb, eqb→eq, nltb→le}
use Rattle.model.specs.Format.{Format}
use Rattle.model.specs.History.{History}
use Rattle.model.specs.Audit.{Outcome, unread, refused, accepted, Check, ◌unless◌, first_unmet}
use Rattle.model.specs.Report.{report_of, Refuses}
use Rattle.model.specs.Above.{unless_refused, checked_first, is_bad_run, buffer_after}
use Rattle.model.proofs.Tests.{neither, not-not, eq→eqb, by-if, if_yes, if_no}

-- ---- the entry's own checks

module _ (o : Outcome) where
  pub checked-none : checked_first [] o ≡ o
  unfolding checked_first first_unmet
  checked-none = refl

  -- the first of them fails, or the rest decide
  module _ (n : ℕ) (b : Bool) (rest : List Check) where
    pub by-checked : (P : Outcome → Type 0) → (T b → P (checked_first rest o)) → (T (not b) → P (unread (suc n))) → P (checked_first (suc n unless b ∷ rest) o)
    unfolding checked_first first_unmet
    by-checked P = by-if (λ (k : ℕ). P (unless_refused k o)) b (first_unmet rest) (suc n)

    pub checked-passes : T b → checked_first (suc n unless b ∷ rest) o ≡ checked_first rest o
    unfolding checked_first first_unmet
    checked-passes t = ap (λ (k : ℕ). unless_refused k o) (if_yes b (first_unmet rest) (suc n) t)

    pub checked-fails : T (not b) → checked_first (suc n unless b ∷ rest) o ≡ unread (suc n)
    unfolding checked_first first_unmet
    checked-fails t = ap (λ (k : ℕ). unless_refused k o) (if_no b (first_unmet rest) (suc n) t)

-- ---- words in parts of one size

module _ (size : ℕ) (some : 0 < size) (ws : List ℕ) where
  abbrev number : ℕ
  number = length ws / size

  pub parts-count : (n : ℕ) → length ws ≡ n * size → number ≡ n
  parts-count n e = ap (◌/ size) e ∙ mul-div_cancel n some

  module _ (limit : ℕ) where
    -- they are n whole parts, and not too many
    abbrev AreParts : ℕ → Type 0
    AreParts n = (length ws ≡ n * size) × (n ≤ limit)

    abbrev good : Bool
    good = not (is_bad_run size limit ws)

    pub parts-good : (n : ℕ) → AreParts n → T good
    parts-good n (e, few) =
        (neither (not (eqb (length ws % size) 0)) (ltb limit number)).1 (
          (not-not (eqb (length ws % size) 0)).1 (eq→eqb (length ws % size) 0 (ap (◌% size) e ∙ mul-mod_left n size)),
          le→nltb limit number (subst (◌≤ limit) (sym (parts-count n e)) few),
        )

    pub good-parts : T good → AreParts number
    good-parts t =
        let (rest, few) = (neither (not (eqb (length ws % size) 0)) (ltb limit number)).0 t in
        let none = eqb→eq (length ws % size) 0 ((not-not (eqb (length ws % size) 0)).0 rest) in
        (sym (div-add-mod' (length ws) size) ∙ ap (number * size +◌) none ∙ add-zero (number * size), nltb→le limit number few)

    -- a refusal that neither the checks after it nor the audit give is given exactly where they are not such parts
    pub refuses-bad : (o : Outcome) (n : ℕ) (rest : List Check) → (checked_first rest o ≡ unread (suc n) → ⊥)
        → (checked_first (suc n unless good ∷ rest) o ≡ unread (suc n)) ↔ ((k : ℕ) → AreParts k → ⊥)
    refuses-bad o n rest other = (
      λ e k are. other (sym (checked-passes o n good rest (parts-good k are)) ∙ e),
      λ none. checked-fails o n good rest (not_T good (λ t. none number (good-parts t))),
    )

-- ---- a buffer that is made for an accepted board alone

module _ (o : Outcome) (made : History → List ℕ → List ℕ) (s : List ℕ) where
  pub buffer-made : {h : History} → o ≡ accepted h → buffer_after o made s ≡ made h s
  unfolding buffer_after
  buffer-made e = rw e

  pub buffer-unread : {n : ℕ} → o ≡ unread n → buffer_after o made s ≡ s
  unfolding buffer_after
  buffer-unread e = rw e

-- any refusal leaves it as it was
pub buffer-unchanged : {f : Format} {n k : ℕ} (o : Outcome) (made : History → List ℕ → List ℕ) (s : List ℕ) → Refuses f o n k → buffer_after o made s ≡ s
unfolding buffer_after report_of
buffer-unchanged (unread m) made s r = refl
buffer-unchanged (refused m i) made s r = refl
buffer-unchanged (accepted h) made s r = absurd (omega (arith, r.refusal, r.number))

-- it keeps its length, if what is made does
pub buffer-keeps : (o : Outcome) (made : History → List ℕ → List ℕ) (s : List ℕ) → ((h : History) → o ≡ accepted h → length (made h s) ≡ length s)
    → length (buffer_after o made s) ≡ length s
unfolding buffer_after
buffer-keeps (unread m) made s keeps = refl
buffer-keeps (refused m i) made s keeps = refl
buffer-keeps (accepted h) made s keeps = keeps h refl
