-- Words written as their halves, one word after the other.
use mathlib.Core.Path.{◌≡◌, refl, sym, ap, ap₂, ◌∙◌}
use Prim.Native.Nat.{ℕ, ◌+◌, ◌*◌, ◌/◌, ◌%◌, ◌^◌, ◌<◌}
use mathlib.Core.List.{List, [], ◌∷◌, ◌++◌}
use native.Mathlib.Nat.{mod-eq_of_lt}
use native.Mathlib.Numerals.{add-one}
use native.Mathlib.Omega.{arith}
use lib.ListN.{length, get_or, take, drop, set, length-append}
use lib.Pow.{shr_lt}
use lib.Seq.{length-take-le, take-suc, take_at, sets-eq}
use Rattle.sha512_block.specs.Fips.{to_halves}
use Rattle.sha512_block.proofs.Halves.{halves-append}

-- none
pub halves-none : (d h : List ℕ) → take 0 d ≡ to_halves (take 0 h)
unfolding to_halves
halves-none d h = refl

-- one word more of h, its halves stored behind those of the words before it
pub halves-next : (h d : List ℕ) (i : ℕ) → i < length h → get_or h i 0 < 2 ^ 64 → i * 2 + 1 < length d → take (i * 2) d ≡ to_halves (take i h)
    → take ((i + 1) * 2) (set (set d (i * 2) (get_or h i 0 / 2 ^ 32)) (i * 2 + 1) (get_or h i 0 % 2 ^ 32)) ≡ to_halves (take (i + 1) h)
unfolding to_halves
halves-next h d i p f q e =
    let w = get_or h i 0 in
    let at = i * 2 in
    let two = w / 2 ^ 32 ∷ w % 2 ^ 32 ∷ [] in
    let n = length-append (take at d) two ∙ ap (λ (k : ℕ). k + 2) (length-take-le at d (omega arith)) in
    let ends : (i + 1) * 2 ≡ at + 2 = omega arith in
    ap₂ (λ (j k : ℕ). take j (set (set d at (w / 2 ^ 32)) k (w % 2 ^ 32))) ends (add-one at)
    ∙ ap (take (at + 2)) (sets-eq two d at (omega arith))
    ∙ take_at (take at d ++ two) (drop (at + 2) d) (at + 2) n
    ∙ ap₂ (λ (l : List ℕ) (x : ℕ). l ++ (x ∷ w % 2 ^ 32 ∷ [])) e (sym (mod-eq_of_lt (shr_lt 32 32 f)))
    ∙ sym (ap (λ (k : ℕ). to_halves (take k h)) (add-one i) ∙ ap to_halves (take-suc h i 0 p) ∙ halves-append (take i h) (w ∷ []))
