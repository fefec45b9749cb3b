-- A board read, one word at a time along the unchecked history, as a loop takes it: what is answered from n items on is a refusal, what the
-- closing word gives, or what is answered from one item more on. Paper: "Then, item by item". Assumes nothing.
use Prim.Native.Nat.{ℕ, zero, suc, ◌-◌, ◌≤◌, ◌<◌}
use native.Mathlib.Omega.{arith}
use mathlib.Core.Path.{◌≡◌, refl, ◌∙◌}
use mathlib.Core.Logic.{◌≢◌}
use mathlib.Core.Bool.{Bool, not}
use mathlib.Core.List.{List, []}
use lib.ListN.{length, get_or}
use lib.Dec.{T, leb}
use Rattle.model.specs.Words.{is_closing}
use Rattle.model.specs.Refusal.{no_fault, too_large, truncated}
use Rattle.model.specs.Format.{Format}
use Rattle.model.specs.History.{History, place_of, history}
use Rattle.model.specs.Roll.{Eligibility}
use Rattle.model.specs.Audit.{Outcome, refused, fault, closing, judged, word_at, reading, item_limit, closing_ok}
use Rattle.model.proofs.Tests.{tests, if_yes, if_no}
use Rattle.model.proofs.Unchecked.{length-history}

-- the answer from n items on, whatever is asked of each item and of the closing word
abbrev pub reading_from : Format → List ℕ → (History → ℕ → Bool) → (History → ℕ → ℕ) → ℕ → Outcome
reading_from f ws closed fault n = reading f ws closed fault (item_limit - n) (history f ws n) (place_of f ws n)

-- in the audit
abbrev pub items_from : Format → Eligibility → List ℕ → List ℕ → ℕ → Outcome
items_from f on ws vs n = reading_from f ws (closing_ok ws vs) (fault f on ws vs) n

-- before the first item
pub from_start : (f : Format) (ws : List ℕ) (closed : History → ℕ → Bool) (faults : History → ℕ → ℕ)
    → reading f ws closed faults item_limit [] 0 ≡ reading_from f ws closed faults 0
unfolding history place_of
from_start f ws closed faults = refl

-- a refusal is the answer, with the items passed
pub judged-refused : (n : ℕ) (h : History) (o : Outcome) → n ≢ no_fault → judged n h o ≡ refused n (length h)
unfolding judged
judged-refused zero h o some = absurd (some refl)
judged-refused (suc n) h o some = refl

module _ (f : Format) (ws : List ℕ) (closed : History → ℕ → Bool) (faults : History → ℕ → ℕ) where
  -- however many items are still allowed, the word comes first
  by_word : (P : Outcome → Type 0) (k : ℕ) (h : History) (p : ℕ) → ((o : Outcome) → P (word_at ws closed h p o)) → P (reading f ws closed faults k h p)
  unfolding reading
  by_word P zero h p all = all _
  by_word P (suc k) h p all = all _

  module _ (n : ℕ) where
    abbrev here : ℕ
    here = place_of f ws n

    abbrev from : ℕ → Outcome
    from = reading_from f ws closed faults

    -- "no closing word": refused with n items passed
    pub from-ended : length ws ≤ here → from n ≡ refused truncated n
    unfolding word_at
    from-ended l =
        by_word (λ o. o ≡ refused truncated n) (item_limit - n) _ here
        λ o. if_yes (leb (length ws) here) _ _ (omega (arith, tests)) ∙ rw (length-history f ws n)

    module _ (there : here < length ws) where
      -- the closing word
      pub from-closing : T (is_closing (get_or ws here 0)) → from n ≡ closing (closed (history f ws n) here) (history f ws n)
      unfolding word_at
      from-closing t =
          by_word (λ o. o ≡ closing (closed (history f ws n) here) (history f ws n)) (item_limit - n) _ here
          λ o. if_no (leb (length ws) here) _ _ (omega (arith, tests)) ∙ if_yes (is_closing (get_or ws here 0)) _ _ t

      module _ (head : T (not (is_closing (get_or ws here 0)))) where
        word-head : (o : Outcome) → word_at ws closed (history f ws n) here o ≡ o
        unfolding word_at
        word-head o = if_no (leb (length ws) here) _ _ (omega (arith, tests)) ∙ if_no (is_closing (get_or ws here 0)) _ _ head

        -- "after 2,048 items a word not of kind 15"
        pub from-full : item_limit ≤ n → from n ≡ refused too_large n
        unfolding reading
        from-full l = let none : item_limit - n ≡ 0 = omega arith in rw none (word-head _ ∙ rw (length-history f ws n))

        module _ (few : n < item_limit) where
          from-item : from n ≡ judged (faults (history f ws n) here) (history f ws n) (from (suc n))
          unfolding reading history place_of
          from-item = let one : item_limit - n ≡ suc (item_limit - suc n) = omega arith in rw one (word-head _)

          -- an item is refused
          pub from-refused : (m : ℕ) → faults (history f ws n) here ≡ m → m ≢ no_fault → from n ≡ refused m n
          from-refused m q some = from-item ∙ rw q (judged-refused m (history f ws n) _ some ∙ rw (length-history f ws n))

          -- an item passes
          pub from-passed : faults (history f ws n) here ≡ no_fault → from n ≡ from (suc n)
          unfolding judged
          from-passed q = from-item ∙ rw q
