-- Laws of the lines: put part by part, and how long they are at most. Assumes nothing.
use Prim.Native.Nat.{ℕ, ◌^◌, ◌≤◌, ◌<◌}
use native.Mathlib.Omega.{arith}
use mathlib.Core.Path.{◌≡◌}
use mathlib.Core.List.{List, [], ◌∷◌, ◌++◌, append-nil, append_assoc}
use lib.ListN.{length, length-append}
use Rattle.model.specs.Program.{newline, space, refused_text, at_text, accepted_text, decimal, spaced, refused_line, accepted_line, row_lines}
use Rattle.model.proofs.Decimal.{length-decimal}
use Rattle.text.specs.declared.writer.Writer.{Writer}
use Rattle.text.specs.Put.{Writes}
use Rattle.text.proofs.Placed.{writes_then}
use Rattle.text.proofs.Digits.{length-word, length-pair}

-- numbers behind spaces, one by one
spaced-more : (n m : ℕ) (ns : List ℕ) → spaced (n ∷ m ∷ ns) ≡ spaced (n ∷ []) ++ spaced (m ∷ ns)
unfolding spaced
spaced-more n m ns = simp append_assoc

-- ---- the parts of a line

refused-parts : (n k : ℕ) → refused_line n k ≡ refused_text ++ spaced (n ∷ []) ++ (space ∷ at_text) ++ spaced (k ∷ []) ++ (newline ∷ [])
unfolding refused_line
refused-parts n k = simp append_assoc

accepted-parts : (items mains ballots weight : ℕ) →
    accepted_line items mains ballots weight
    ≡ accepted_text ++ spaced (items ∷ []) ++ spaced (mains ∷ []) ++ spaced (ballots ∷ []) ++ spaced (weight ∷ []) ++ (newline ∷ [])
unfolding accepted_line
accepted-parts items mains ballots weight = simp (spaced-more, append_assoc)

row-parts : (ballot voter weight : ℕ) →
    row_lines (ballot ∷ voter ∷ weight ∷ []) ≡ decimal ballot ++ spaced (voter ∷ []) ++ spaced (weight ∷ []) ++ (newline ∷ [])
unfolding row_lines
row-parts ballot voter weight = simp (spaced-more, append-nil, append_assoc)

-- ---- a line put part by part

module _ {u u₁ u₂ u₃ u₄ : Writer} where
  pub put-row : (ballot voter weight : ℕ) → Writes u (decimal ballot) u₁ → Writes u₁ (spaced (voter ∷ [])) u₂
      → Writes u₂ (spaced (weight ∷ [])) u₃ → Writes u₃ (newline ∷ []) u₄ → Writes u (row_lines (ballot ∷ voter ∷ weight ∷ [])) u₄
  put-row ballot voter weight p p₁ p₂ p₃ = rw row-parts (writes_then (writes_then (writes_then p p₁) p₂) p₃)

  pub put_refused : {u₅ : Writer} (n k : ℕ) → Writes u refused_text u₁ → Writes u₁ (spaced (n ∷ [])) u₂
      → Writes u₂ (space ∷ at_text) u₃ → Writes u₃ (spaced (k ∷ [])) u₄ → Writes u₄ (newline ∷ []) u₅ → Writes u (refused_line n k) u₅
  put_refused n k p p₁ p₂ p₃ p₄ = rw refused-parts (writes_then (writes_then (writes_then (writes_then p p₁) p₂) p₃) p₄)

  pub put-accepted : {u₅ u₆ : Writer} (items mains ballots weight : ℕ) → Writes u accepted_text u₁
      → Writes u₁ (spaced (items ∷ [])) u₂ → Writes u₂ (spaced (mains ∷ [])) u₃ → Writes u₃ (spaced (ballots ∷ [])) u₄
      → Writes u₄ (spaced (weight ∷ [])) u₅ → Writes u₅ (newline ∷ []) u₆ → Writes u (accepted_line items mains ballots weight) u₆
  put-accepted items mains ballots weight p p₁ p₂ p₃ p₄ p₅ = rw accepted-parts (writes_then (writes_then (writes_then (writes_then (writes_then p p₁) p₂) p₃) p₄) p₅)

-- ---- how long they are

pub length-row : (ballot voter weight : ℕ) → ballot < 2 ^ 32 → voter < 2 ^ 32 → weight < 2 ^ 32 → length (row_lines (ballot ∷ voter ∷ weight ∷ [])) ≤ 64
length-row ballot voter weight b v w =
    rw row-parts (simp length-append (omega (arith, length-decimal 9 ballot (omega arith), length-word voter v, length-word weight w)))

pub length-accepted : (items mains ballots weight : ℕ) → items < 2 ^ 32 → mains < 2 ^ 32 → ballots < 2 ^ 32 → weight < 2 ^ 64
    → length (accepted_line items mains ballots weight) ≤ 64
length-accepted items mains ballots weight i m b w =
    rw accepted-parts (simp length-append (omega (arith, length-word items i, length-word mains m, length-word ballots b, length-pair weight w)))
