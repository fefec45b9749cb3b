-- Laws of the message schedule, which grows by a word with each round, and of the rounds over it.
use mathlib.Core.Path.{◌≡◌, refl, sym, ap, ap₂, ◌∙◌, subst}
use mathlib.Core.Logic.{⊎_elim}
use Prim.Native.Nat.{ℕ, zero, suc, ◌+◌, ◌-◌, ◌≤◌, ◌<◌}
use mathlib.Core.List.{List, [], ◌∷◌}
use native.Mathlib.Nat.{le_of_eq, eq-or-lt_of_le}
use native.Mathlib.Numerals.{add-one}
use native.Mathlib.Omega.{arith}
use borrow.Author.Tests.{ltb-false}
use mathlib.Core.Bool.{Bool, true, false, cond}
use lib.Dec.{ltb}
use lib.ListN.{length, get_or, take, set, length-set, length-append, get_or-append}
use lib.Seq.{get_or_at, get_or-take, take_all, take-suc-set}
use Rattle.std.proofs.Common.{le-ltb, lt-ltb}
use Rattle.std.proofs.lemmas.List.{get_or_default}
use Rattle.sha2_common.specs.declared.compression.Working.{Working}
use Rattle.sha2_common.specs.Equations.{Functions, message_word, schedule, initialize, round, rounds, intermediate, compress}
use Rattle.sha2_common.specs.Rounds.{Reached, Onward}

cond-else : {A : Type 0} (b : Bool) (x : A) {y z : A} → (b ≡ false → y ≡ z) → cond b x y ≡ cond b x z
cond-else true x h = refl
cond-else false x h = h refl

module _ {W : Type 0} (f : Functions W) where
  -- ---- message_word

  -- the two cases of 6.2.2 and 6.4.2, 1
  pub message_word-first : (M w : List W) (t : ℕ) → t < 16 → message_word f M w t ≡ get_or M t f.none
  unfolding message_word
  message_word-first M w t p = rw lt-ltb

  pub message_word-next : (M w : List W) (t : ℕ) → 16 ≤ t
      → message_word f M w t
      ≡ f.sum
      (f.sum (f.sum (f.small_sigma1 (get_or w (t - 2) f.none)) (get_or w (t - 7) f.none)) (f.small_sigma0 (get_or w (t - 15) f.none)))
      (get_or w (t - 16) f.none)
  unfolding message_word
  message_word-next M w t p = rw le-ltb

  -- of the words before it only that they were read is known: i to l stand past the end of w
  pub message_word-made : (M w : List W) (t : ℕ) (i j k l : W) → 16 ≤ t → t < length w → {σ₁ σ₀ a b r : W}
      → σ₁ ≡ f.small_sigma1 (get_or w (t - 2) i) → a ≡ f.sum σ₁ (get_or w (t - 7) j) → σ₀ ≡ f.small_sigma0 (get_or w (t - 15) k)
      → b ≡ f.sum a σ₀ → r ≡ f.sum b (get_or w (t - 16) l) → r ≡ message_word f M w t
  message_word-made M w t i j k l p q d e g h s =
      let x = get_or_default w (t - 2) i f.none (omega arith) in
      let y = get_or_default w (t - 7) j f.none (omega arith) in
      let z = get_or_default w (t - 15) k f.none (omega arith) in
      let u = get_or_default w (t - 16) l f.none (omega arith) in
      cc (message_word-next M w t p)

  module _ (M : List W) where
    -- it goes by the words before it alone
    pub word-before : (U w : List W) (t : ℕ) → ((j : ℕ) → j < t → get_or U j f.none ≡ get_or w j f.none)
        → message_word f M U t ≡ message_word f M w t
    unfolding message_word
    word-before U w t same =
        cond-else (ltb t 16) (get_or M t f.none)
        (λ e.
        let p = ltb-false t 16 e in
        rw (same (t - 2) (omega arith), same (t - 7) (omega arith), same (t - 15) (omega arith), same (t - 16) (omega arith)))

    -- ---- the schedule

    pub length-schedule : (t : ℕ) → length (schedule f M t) ≡ t
    unfolding schedule
    length-schedule zero = refl
    length-schedule (suc t) =
        length-append (schedule f M t) (message_word f M (schedule f M t) t ∷ []) ∙ ap (λ (k : ℕ). k + 1) (length-schedule t) ∙ add-one t

    -- the word at t, in a schedule of m words
    get_or-schedule : (m t : ℕ) → t < m → get_or (schedule f M m) t f.none ≡ message_word f M (schedule f M t) t
    unfolding schedule
    get_or-schedule zero t p = absurd (omega arith)
    get_or-schedule (suc m) t p =
        ⊎_elim
        (λ e. get_or_at (schedule f M m) (message_word f M (schedule f M m) m) [] f.none t (length-schedule m ∙ sym e)
        ∙ ap (λ (k : ℕ). message_word f M (schedule f M k) k) (sym e))
        (λ q. get_or-append (schedule f M m) _ f.none t (omega (arith, length-schedule m)) ∙ get_or-schedule m t q)
        (eq-or-lt_of_le {n = t} {m = m} (omega arith))

    -- which goes by the words of that schedule, too
    pub schedule-word : (m t : ℕ) → t < m → get_or (schedule f M m) t f.none ≡ message_word f M (schedule f M m) t
    schedule-word m t p =
        get_or-schedule m t p
        ∙ word-before (schedule f M t) (schedule f M m) t (λ j q. get_or-schedule t j q ∙ sym (get_or-schedule m j (omega arith)))

    -- in the two cases
    pub schedule-first : (m t : ℕ) → t < m → t < 16 → get_or (schedule f M m) t f.none ≡ get_or M t f.none
    schedule-first m t p q = schedule-word m t p ∙ message_word-first M (schedule f M m) t q

    pub schedule-next : (m t : ℕ) → t < m → 16 ≤ t → let S = schedule f M m in
        get_or S t f.none
        ≡ f.sum
        (f.sum (f.sum (f.small_sigma1 (get_or S (t - 2) f.none)) (get_or S (t - 7) f.none)) (f.small_sigma0 (get_or S (t - 15) f.none)))
        (get_or S (t - 16) f.none)
    schedule-next m t p q = schedule-word m t p ∙ message_word-next M (schedule f M m) t q

    -- a word is stored behind those before it
    schedule-stored : (w : List W) (t : ℕ) {x : W} → x ≡ message_word f M (schedule f M t) t → t < length w → take t w ≡ schedule f M t
        → take (t + 1) (set w t x) ≡ schedule f M (t + 1)
    unfolding schedule
    schedule-stored w t d p e = rw (add-one, take-suc-set w t, e, d)

    -- ---- the rounds

    module _ (n : ℕ) where
      -- none yet
      pub reached-none : (w : List W) (first : Working W) → length w ≡ n → Reached f n M first 0 w first
      unfolding schedule rounds
      reached-none w first l = record { sized = l; scheduled = refl; worked = refl }

      -- one round, which makes its word of the schedule and stores it
      pub onward-one : (w k : List W) (t : ℕ) (x : W) (v r : Working W) → k ≡ f.constants → x ≡ message_word f M w t
          → r ≡ round f v (get_or k t f.none) x → t < n → Onward f n M t (t + 1) w v (set w t x) r
      unfolding rounds
      onward-one w k t x v r named made done p first s =
          let same : (j : ℕ) → j < t → get_or w j f.none ≡ get_or (schedule f M t) j f.none =
          λ j q. sym (get_or-take t w j f.none q) ∙ ap (λ (l : List W). get_or l j f.none) s.scheduled in
          let d = made ∙ word-before w (schedule f M t) t same in
          record {
            sized = length-set w t x ∙ s.sized;
            scheduled = schedule-stored w t d (omega (arith, s.sized)) s.scheduled;
            worked =
                done ∙ ap₂ (λ (l : List W) (u : Working W). round f u (get_or l t f.none) x) named s.worked
                ∙ ap (round f (rounds f (schedule f M n) first t) (get_or f.constants t f.none)) (d ∙ sym (get_or-schedule n t p))
                ∙ sym (ap (rounds f (schedule f M n) first) (add-one t));
          }

      -- of its constant only that it was read is known: c stands past the end of k
      pub onward-read : (w k : List W) (t : ℕ) (x c : W) (v r : Working W) → k ≡ f.constants → length k ≡ n → x ≡ message_word f M w t
          → r ≡ round f v (get_or k t c) x → t < n → Onward f n M t (t + 1) w v (set w t x) r
      onward-read w k t x c v r named all made done p =
          let d = get_or_default k t c f.none (omega (arith, all)) in
          onward-one w k t x v r named made (done ∙ ap (λ (i : W). round f v i x) d) p

      pub onward-to : {t u u' : ℕ} {w w₁ : List W} {v v₁ : Working W} → u ≡ u' → Onward f n M t u w v w₁ v₁ → Onward f n M t u' w v w₁ v₁
      onward-to {w₁ = w₁} {v₁ = v₁} e g first s = subst (λ (k : ℕ). Reached f n M first k w₁ v₁) e (g first s)

      -- what ends where the next begins
      pub onward_then : {t u u' z : ℕ} {w w₁ w₂ : List W} {v v₁ v₂ : Working W} → u ≡ u'
          → Onward f n M t u w v w₁ v₁ → Onward f n M u' z w₁ v₁ w₂ v₂ → Onward f n M t z w v w₂ v₂
      onward_then e g h first s = h first (onward-to e g first s)

      pub onward-four : (t : ℕ) {w w₁ w₂ w₃ w₄ : List W} {v v₁ v₂ v₃ v₄ : Working W}
          → Onward f n M t (t + 1) w v w₁ v₁ → Onward f n M (t + 1) (t + 1 + 1) w₁ v₁ w₂ v₂
          → Onward f n M (t + 2) (t + 2 + 1) w₂ v₂ w₃ v₃ → Onward f n M (t + 3) (t + 3 + 1) w₃ v₃ w₄ v₄ → Onward f n M t (t + 4) w v w₄ v₄
      onward-four t a b c d =
          let e : t + 1 + 1 ≡ t + 2 = omega arith in
          let g : t + 2 + 1 ≡ t + 3 = omega arith in
          let h : t + 3 + 1 ≡ t + 4 = omega arith in
          onward-to h (onward_then g (onward_then e (onward_then refl a b) c) d)

      -- after all rounds w is the schedule
      pub schedule-end : {w : List W} {v first : Working W} → Reached f n M first n w v → w ≡ schedule f M n
      schedule-end {w = w} s = sym (take_all n w (le_of_eq s.sized)) ∙ s.scheduled

  -- ---- the hash value

  pub intermediate-made : (H : List W) (v s : Working W) {a b c d e g h i : W} → s ≡ initialize f H
      → a ≡ f.sum v.a s.a → b ≡ f.sum v.b s.b → c ≡ f.sum v.c s.c → d ≡ f.sum v.d s.d → e ≡ f.sum v.e s.e → g ≡ f.sum v.f s.f
      → h ≡ f.sum v.g s.g → i ≡ f.sum v.h s.h → a ∷ b ∷ c ∷ d ∷ e ∷ g ∷ h ∷ i ∷ [] ≡ intermediate f H v
  unfolding intermediate
  intermediate-made H v s o p q r t u x y z = cc

  -- after all rounds
  pub compress-end : (n : ℕ) (H M : List W) {r w : List W} {v first : Working W} → first ≡ initialize f H
      → Reached f n M first n w v → r ≡ intermediate f H v → r ≡ compress f n H M
  unfolding compress
  compress-end n H M e s g = let d = s.worked in cc
