-- Laws of the ballot rows' lines: one row more. Assumes nothing.
use Prim.Native.Nat.{ℕ, zero, suc, ◌+◌, ◌*◌, ◌^◌, ◌≤◌, ◌<◌}
use native.Mathlib.Omega.{arith}
use mathlib.Core.Path.{◌≡◌, refl, sym, ap, ◌∙◌}
use mathlib.Core.List.{List, [], ◌∷◌, ◌++◌, append_assoc}
use lib.ListN.{length, take, drop, get_or, length-take}
use lib.Seq.{take-add, drop-cons}
use lib.Seq.{get_or-take, get_or-drop}
use Rattle.std.specs.Simd.{first_chunks}
use Rattle.words.proofs.Runs.{get_or-chunks}
use Rattle.model.specs.Audit.{ballot_row}
use Rattle.model.specs.Program.{decimal, spaced, line, row_lines}
use Rattle.text.specs.declared.writer.Writer.{Writer}
use Rattle.text.specs.Put.{Writes}
use Rattle.text.proofs.Placed.{writes_then}
use Rattle.text.proofs.Lines.{length-row}

-- whole rows, then words
row_lines-append : (k : ℕ) (xs ys : List ℕ) → length xs ≡ ballot_row * k → row_lines (xs ++ ys) ≡ row_lines xs ++ row_lines ys
unfolding row_lines
row_lines-append zero [] ys e = refl
row_lines-append (suc k) (a ∷ b ∷ c ∷ xs) ys e =
    ap (λ (r : List ℕ). line (decimal a ++ spaced (b ∷ c ∷ [])) ++ r) (row_lines-append k xs ys (omega arith)) ∙ sym (append_assoc (line (decimal a ++ spaced (b ∷ c ∷ []))) (row_lines xs) (row_lines ys))
row_lines-append zero (a ∷ xs) ys e = absurd (omega arith)
row_lines-append (suc k) [] ys e = absurd (omega arith)
row_lines-append (suc k) (a ∷ []) ys e = absurd (omega arith)
row_lines-append (suc k) (a ∷ b ∷ []) ys e = absurd (omega arith)

-- three words at a place
take-three : (t : List ℕ) (p : ℕ) → p + 3 ≤ length t → take 3 (drop p t) ≡ get_or t p 0 ∷ get_or t (p + 1) 0 ∷ get_or t (p + 2) 0 ∷ []
take-three t p h =
    let h₀ : p < length t = omega arith in
    let h₁ : suc p < length t = omega arith in
    let h₂ : suc (suc p) < length t = omega arith in
    let one : p + 1 ≡ suc p = omega arith in
    let two : p + 2 ≡ suc (suc p) = omega arith in
    rw (drop-cons t p 0 h₀, drop-cons t (suc p) 0 h₁, drop-cons t (suc (suc p)) 0 h₂, one, two)

-- word j of row k, where the first rows are cut into chunks
pub row-word : (t : List ℕ) (chunks : List (List ℕ)) (n rows k j : ℕ) → chunks ≡ first_chunks 3 n (take (ballot_row * rows) t) → k < n → k < rows → j < 3
    → get_or (get_or chunks k []) j 0 ≡ get_or t (ballot_row * k + j) 0
row-word t chunks n rows k j e l m b =
    let place : k * 3 + j ≡ ballot_row * k + j = omega arith in
    let inside : ballot_row * k + j < ballot_row * rows = omega arith in
    let first = take (ballot_row * rows) t in
    rw (e, get_or-chunks 3 first n k [] l, get_or-take 3 (drop (k * 3) first) j 0 b, get_or-drop, place)
    (get_or-take (ballot_row * rows) t (ballot_row * k + j) 0 inside)

module _ (t : List ℕ) (k : ℕ) where
  -- the line of row k
  abbrev pub row_line : List ℕ
  row_line = row_lines (get_or t (ballot_row * k) 0 ∷ get_or t (ballot_row * k + 1) 0 ∷ get_or t (ballot_row * k + 2) 0 ∷ [])

  row_lines-more : ballot_row * k + ballot_row ≤ length t → row_lines (take (ballot_row * (k + 1)) t) ≡ row_lines (take (ballot_row * k) t) ++ row_line
  row_lines-more h =
      let e : ballot_row * (k + 1) ≡ ballot_row * k + ballot_row = omega arith in
      rw (e, take-add (ballot_row * k) ballot_row t, take-three t (ballot_row * k) h)
      (row_lines-append k (take (ballot_row * k) t) _ (simp length-take (omega arith)))

  -- one row more, in at most 64 bytes
  pub put-row-more : {u v w : Writer} {rows : ℕ} → k < rows → ballot_row * rows ≤ length t → ((i : ℕ) → get_or t i 0 < 2 ^ 32)
      → Writes u (row_lines (take (ballot_row * k) t)) v → v.at ≤ u.at + 64 * k → Writes v row_line w
      → (Writes u (row_lines (take (ballot_row * (k + 1)) t)) w) × (w.at ≤ u.at + 64 * (k + 1))
  put-row-more less room small p most q =
      let row = length-row (get_or t (ballot_row * k) 0) (get_or t (ballot_row * k + 1) 0) (get_or t (ballot_row * k + 2) 0) (small _) (small _) (small _) in
      (rw (row_lines-more (omega arith)) (writes_then p q), omega (arith, row, q.put.behind))
