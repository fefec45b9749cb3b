-- Laws of runs of words: two runs compared word by word, and a list written word by word. Assumes nothing.
use mathlib.Core.Path.{◌≡◌, refl, sym, ap, ◌∙◌}
use mathlib.Core.List.{List, [], ◌∷◌, ◌++◌}
use Rattle.std.specs.Simd.{first_chunks}
use native.Mathlib.Nat.{zero-mul, suc-mul, add_comm}
use Prim.Native.Nat.{ℕ, zero, suc, ◌+◌, ◌-◌, ◌*◌, ◌^◌, ◌≤◌, ◌<◌}
use native.Mathlib.Numerals.{add-one}
use native.Mathlib.Omega.{arith}
use lib.ListN.{length, take, drop, get_or, set, length-take, replicate}
use lib.Seq.{drop-drop, drop-cons, get_or-drop, get_or-take, take-suc, append_snoc, set_at}
use lib.Dec.{eqb}
use Rattle.model.specs.Lists.{part}
use Rattle.model.specs.Words.{pair, same_words}
use Rattle.std.specs.Cmp.Lexicographic.{pointwise}
use Rattle.std.specs.List.{list_all}
use Rattle.model.proofs.Parts.{part-add}

-- ---- parts

-- word k of a part
pub get_or-part : (s : List ℕ) (p n k : ℕ) → k < n → get_or (part p n s) k 0 ≡ get_or s (p + k) 0
unfolding part
get_or-part s p n k h = rw (get_or-take, get_or-drop)

-- the slice from i to j
pub slice-part : (s : List ℕ) (i n j : ℕ) → i + n ≡ j → take (j - i) (drop i s) ≡ part i n s
unfolding part
slice-part s i n j e = let same : j - i ≡ n = omega arith in rw same

-- element i of the first n chunks of a size
pub get_or-chunks : (size : ℕ) (xs : List ℕ) (n i : ℕ) (d : List ℕ) → i < n → get_or (first_chunks size n xs) i d ≡ take size (drop (i * size) xs)
get_or-chunks size xs zero i d h = absurd (omega arith)
get_or-chunks size xs (suc n) zero d h = rw zero-mul
get_or-chunks size xs (suc n) (suc i) d h = get_or-chunks size (drop size xs) n i d (omega arith) ∙ rw (drop-drop, suc-mul, add_comm)

-- two words
pub part-two : (s : List ℕ) (p : ℕ) → p + 2 ≤ length s → part p 2 s ≡ get_or s p 0 ∷ get_or s (p + 1) 0 ∷ []
unfolding part
part-two s p h =
    let h₀ : p < length s = omega arith in
    let h₁ : suc p < length s = omega arith in
    rw (drop-cons s p 0 h₀, drop-cons s (suc p) 0 h₁, add-one)

pub pair-part : (s : List ℕ) (p : ℕ) → p + 2 ≤ length s → pair (part p 2 s) ≡ get_or s p 0 * 2 ^ 32 + get_or s (p + 1) 0
unfolding pair
pair-part s p h = rw (part-two s p h)

-- four words
part-four : (s : List ℕ) (p : ℕ) → p + 4 ≤ length s → part p 4 s ≡ get_or s p 0 ∷ get_or s (p + 1) 0 ∷ get_or s (p + 2) 0 ∷ get_or s (p + 3) 0 ∷ []
part-four s p h =
    let e : p + 2 + 1 ≡ p + 3 = omega arith in
    part-add p 2 2 s ∙ rw (part-two s p (omega arith), part-two s (p + 2) (omega arith), e)

-- ---- two runs compared

-- the library's `==` of slices
pub same_pointwise : (xs ys : List ℕ) → pointwise eqb xs ys ≡ same_words xs ys
unfolding same_words
same_pointwise [] [] = refl
same_pointwise [] (y ∷ ys) = refl
same_pointwise (x ∷ xs) [] = refl
same_pointwise (x ∷ xs) (y ∷ ys) = rw (same_pointwise xs ys)

-- a run compared with zeros
pub all_zeros : (xs : List ℕ) → list_all (λ w. eqb w 0) xs ≡ same_words xs (replicate (length xs) 0)
unfolding same_words
all_zeros [] = refl
all_zeros (x ∷ xs) = rw (all_zeros xs)

-- ---- a list written word by word over another

pub write-more : (ws d : List ℕ) (i : ℕ) → i < length ws → i < length d → set (take i ws ++ drop i d) i (get_or ws i 0) ≡ take (i + 1) ws ++ drop (i + 1) d
write-more ws d i hw hd =
    let l : length (take i ws) ≡ i = simp length-take (omega arith) in
    ap (λ (r : List ℕ). set (take i ws ++ r) i (get_or ws i 0)) (drop-cons d i 0 hd)
    ∙ set_at (take i ws) (get_or d i 0) (drop (suc i) d) (get_or ws i 0) i l
    ∙ rw (add-one, take-suc ws i 0 hw) (sym (append_snoc (take i ws) (get_or ws i 0) (drop (suc i) d)))
