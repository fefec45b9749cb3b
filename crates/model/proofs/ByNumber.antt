-- Every answer for its reason, number by number: which condition a given refusal tells of, and where. Paper: "Refusals and their order".
-- Assumes nothing.
use Prim.Native.Nat.{ℕ}
use native.Mathlib.Omega.{arith}
use mathlib.Core.Path.{◌≡◌, refl}
use mathlib.Core.Logic.{◌≢◌, ◌↔◌, ◌⊎◌, inl, inr, ⊎_elim}
use mathlib.Core.List.{List, [], ◌∷◌}
use Rattle.model.specs.Refusal.{empty_board, truncated, bad_closing, bad_roll}
use Rattle.model.specs.Format.{Format}
use Rattle.model.specs.Roll.{on_roll}
use Rattle.model.specs.Audit.{Outcome, unread, refused, accepted, audit}
use Rattle.model.specs.Reasons.{FirstOf, numbers_of, start_reasons, EndsAt, ClosesAt, HeadAt, item_reasons, closing_reasons, Reached, Answers, at_start, at_roll, at_empty, at_end, at_item, at_closing, acceptance}
use Rattle.model.proofs.FirstReason.{every_first}
use Rattle.model.proofs.Reasons.{answers}

by-five : {A B C D E X : Type 0} → A ⊎ (B ⊎ (C ⊎ (D ⊎ E))) → (A → X) → (B → X) → (C → X) → (D → X) → (E → X) → X
by-five s a b c d e = ⊎_elim a (⊎_elim b (⊎_elim c (⊎_elim d e))) s

module _ (f : Format) (ws vs roll : List ℕ) (index ballots : ℕ) where
  abbrev Answer : Outcome → Type 0
  Answer = Answers f ws vs roll index ballots

  abbrev Reaching : ℕ → Type 0
  Reaching = Reached f ws vs roll index ballots

  -- the numbers of the reasons, in their order
  pub numbers-in-order : (k : ℕ) → (numbers_of (start_reasons ws roll index ballots) ≡ 1 ∷ 2 ∷ 20 ∷ 3 ∷ [])
      × (numbers_of (item_reasons f (on_roll roll) ws vs k) ≡ 1 ∷ 5 ∷ 6 ∷ 4 ∷ 7 ∷ 8 ∷ 9 ∷ 10 ∷ 11 ∷ 12 ∷ 13 ∷ 21 ∷ 14 ∷ 15 ∷ 16 ∷ [])
      × (numbers_of (closing_reasons f ws vs k) ≡ 18 ∷ [])
  unfolding start_reasons item_reasons closing_reasons
  numbers-in-order k = (refl, refl, refl)

  -- what is known of them
  item-numbers : (n k : ℕ) → FirstOf (item_reasons f (on_roll roll) ws vs k) n → (n ≢ empty_board) × (n ≢ bad_closing)
  unfolding item_reasons
  item-numbers n k s = every_first (λ n. (n ≢ empty_board) × (n ≢ bad_closing)) (omega arith) s

  item-roll : (n k : ℕ) → FirstOf (item_reasons f (on_roll roll) ws vs k) n → n ≢ bad_roll
  unfolding item_reasons
  item-roll n k s = every_first (λ n. n ≢ bad_roll) (omega arith) s

  closing-numbers : (n k : ℕ) → FirstOf (closing_reasons f ws vs k) n → n ≡ bad_closing
  unfolding closing_reasons
  closing-numbers n k s = every_first (λ n. n ≡ bad_closing) (omega arith) s

  -- ---- from an answer to its reason

  -- why an outcome is given; a refusal has one of five reasons
  abbrev Why : Outcome → Type 0
  Why (unread n) = FirstOf (start_reasons ws roll index ballots) n × (n ≢ bad_roll) × (n ≢ empty_board)
  Why (refused n k) =
      ((n ≡ bad_roll) × (k ≡ 0) × FirstOf (start_reasons ws roll index ballots) bad_roll)
      ⊎ (((n ≡ empty_board) × (k ≡ 0) × FirstOf (start_reasons ws roll index ballots) empty_board)
      ⊎ (((n ≡ truncated) × Reaching k × EndsAt f ws k)
      ⊎ ((Reaching k × HeadAt f ws k × FirstOf (item_reasons f (on_roll roll) ws vs k) n)
      ⊎ (Reaching k × ClosesAt f ws k × FirstOf (closing_reasons f ws vs k) n))))
  Why (accepted h) = Unit

  why : {o : Outcome} → Answer o → Why o
  why (at_start n s bad other) = (s, bad, other)
  why (at_roll s) = inl (refl, refl, s)
  why (at_empty s) = inr (inl (refl, refl, s))
  why (at_end k r end) = inr (inr (inl (refl, r, end)))
  why (at_item n k r head s) = inr (inr (inr (inl (r, head, s))))
  why (at_closing n k r last s) = inr (inr (inr (inr (r, last, s))))
  why (acceptance k r last u) = tt

  roll-of : {k : ℕ} → Answer (refused bad_roll k) → FirstOf (start_reasons ws roll index ballots) bad_roll × (k ≡ 0)
  roll-of {k} a =
      by-five (why a) (λ (e, none, s). (s, none)) (λ (e, none, s). absurd (omega arith)) (λ (e, r, end). absurd (omega arith))
      (λ (r, head, s). absurd (item-roll bad_roll k s refl)) (λ (r, last, s). absurd (omega (arith, closing-numbers bad_roll k s)))

  empty_of : {k : ℕ} → Answer (refused empty_board k) → FirstOf (start_reasons ws roll index ballots) empty_board × (k ≡ 0)
  empty_of {k} a =
      by-five (why a) (λ (e, none, s). absurd (omega arith)) (λ (e, none, s). (s, none)) (λ (e, r, end). absurd (omega arith))
      (λ (r, head, s). absurd ((item-numbers empty_board k s).0 refl)) (λ (r, last, s). absurd (omega (arith, closing-numbers empty_board k s)))

  truncated-of : {k : ℕ} → Answer (refused truncated k)
      → Reaching k × (EndsAt f ws k ⊎ (HeadAt f ws k × FirstOf (item_reasons f (on_roll roll) ws vs k) truncated))
  truncated-of {k} a =
      by-five (why a) (λ (e, none, s). absurd (omega arith)) (λ (e, none, s). absurd (omega arith)) (λ (e, r, end). (r, inl end))
      (λ (r, head, s). (r, inr (head, s))) (λ (r, last, s). absurd (omega (arith, closing-numbers truncated k s)))

  item_of : {n k : ℕ} → Answer (refused n k) → n ≢ bad_roll → n ≢ empty_board → n ≢ truncated → n ≢ bad_closing
      → Reaching k × HeadAt f ws k × FirstOf (item_reasons f (on_roll roll) ws vs k) n
  item_of {n} {k} a good blank whole early =
      by-five (why a) (λ (e, none, s). absurd (good e)) (λ (e, none, s). absurd (blank e)) (λ (e, r, end). absurd (whole e))
      (λ (r, head, s). (r, head, s)) (λ (r, last, s). absurd (early (closing-numbers n k s)))

  closing-of : {k : ℕ} → Answer (refused bad_closing k) → Reaching k × ClosesAt f ws k × FirstOf (closing_reasons f ws vs k) bad_closing
  closing-of {k} a =
      by-five (why a) (λ (e, none, s). absurd (omega arith)) (λ (e, none, s). absurd (omega arith)) (λ (e, r, end). absurd (omega arith))
      (λ (r, head, s). absurd ((item-numbers bad_closing k s).1 refl)) (λ (r, last, s). (r, last, s))

  -- ---- which number is given when

  abbrev outcome : Outcome
  outcome = audit f ws vs roll index ballots

  told : (o : Outcome) → (outcome ≡ o) ↔ Answer o
  told = answers f ws vs roll index ballots

  -- 1's word limit, and 2
  pub unread-reason : (n : ℕ) → (outcome ≡ unread n) ↔ (FirstOf (start_reasons ws roll index ballots) n × (n ≢ bad_roll) × (n ≢ empty_board))
  unread-reason n = (λ e. why ((told _).0 e), λ (s, bad, other). (told _).1 (at_start n s bad other))

  -- 20
  pub roll-reason : (k : ℕ) → (outcome ≡ refused bad_roll k) ↔ (FirstOf (start_reasons ws roll index ballots) bad_roll × (k ≡ 0))
  roll-reason k = (λ e. roll-of ((told _).0 e), λ (s, none). rw none ((told _).1 (at_roll s)))

  -- 3
  pub empty-reason : (k : ℕ) → (outcome ≡ refused empty_board k) ↔ (FirstOf (start_reasons ws roll index ballots) empty_board × (k ≡ 0))
  empty-reason k = (λ e. empty_of ((told _).0 e), λ (s, none). rw none ((told _).1 (at_empty s)))

  -- 4: there is no word behind the first k items, or item k + 1 runs past the end
  pub truncated-reason : (k : ℕ) → (outcome ≡ refused truncated k)
      ↔ (Reaching k × (EndsAt f ws k ⊎ (HeadAt f ws k × FirstOf (item_reasons f (on_roll roll) ws vs k) truncated)))
  truncated-reason k = (
    λ e. truncated-of ((told _).0 e),
    λ (r, why). (told _).1 (⊎_elim (at_end k r) (λ (head, s). at_item truncated k r head s) why),
  )

  -- 1's item limit, 5, 6, 7 to 16, and 21
  pub item-reason : (n k : ℕ) → n ≢ bad_roll → n ≢ empty_board → n ≢ truncated → n ≢ bad_closing
      → (outcome ≡ refused n k) ↔ (Reaching k × HeadAt f ws k × FirstOf (item_reasons f (on_roll roll) ws vs k) n)
  item-reason n k good blank whole early = (λ e. item_of ((told _).0 e) good blank whole early, λ (r, head, s). (told _).1 (at_item n k r head s))

  -- 18
  pub closing-reason : (k : ℕ) → (outcome ≡ refused bad_closing k) ↔ (Reaching k × ClosesAt f ws k × FirstOf (closing_reasons f ws vs k) bad_closing)
  closing-reason k = (λ e. closing-of ((told _).0 e), λ (r, last, s). (told _).1 (at_closing bad_closing k r last s))
