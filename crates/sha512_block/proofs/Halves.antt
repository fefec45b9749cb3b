-- Laws of words and their halves: a block of the words is a block of twice as many halves.
use Rattle.std.proofs.Common.{◌≡◌, ℕ, zero, suc, ◌+◌, ◌*◌, ◌/◌, ◌%◌, ◌^◌, ◌<◌, List, [], ◌∷◌, ◌++◌, length, get_or, take, drop, sym, refl, ap, ◌∙◌, suc-mul, arith}
use native.Mathlib.Numerals.{add-two}
use Rattle.sha512_block.specs.Fips.{of_halves, from_halves, to_halves, block_at}

-- ---- from_halves

double : (n : ℕ) → suc n * 2 ≡ suc (suc (n * 2))
double n = suc-mul n 2 ∙ add-two (n * 2)

take-from : (n : ℕ) (l : List ℕ) → from_halves (take (n * 2) l) ≡ take n (from_halves l)
unfolding from_halves
take-from zero l = refl
take-from (suc n) [] = ap (λ (k : ℕ). from_halves (take k [])) (double n)
take-from (suc n) (a ∷ []) = ap (λ (k : ℕ). from_halves (take k (a ∷ []))) (double n)
take-from (suc n) (a ∷ b ∷ xs) =
    ap (λ (k : ℕ). from_halves (take k (a ∷ b ∷ xs))) (double n) ∙ ap (λ (r : List ℕ). of_halves a b ∷ r) (take-from n xs)

drop-from : (n : ℕ) (l : List ℕ) → from_halves (drop (n * 2) l) ≡ drop n (from_halves l)
unfolding from_halves
drop-from zero l = refl
drop-from (suc n) [] = ap (λ (k : ℕ). from_halves (drop k [])) (double n)
drop-from (suc n) (a ∷ []) = ap (λ (k : ℕ). from_halves (drop k (a ∷ []))) (double n)
drop-from (suc n) (a ∷ b ∷ xs) = ap (λ (k : ℕ). from_halves (drop k (a ∷ b ∷ xs))) (double n) ∙ drop-from n xs

pub length_from : (l : List ℕ) → length (from_halves l) ≡ length l / 2
unfolding from_halves
length_from [] = refl
length_from (a ∷ []) = refl
length_from (a ∷ b ∷ xs) = let e : length (from_halves xs) ≡ length xs / 2 = length_from xs in omega (arith, e)

pub get_or-from : (t : ℕ) (l : List ℕ) → t * 2 + 1 < length l → get_or (from_halves l) t 0 ≡ of_halves (get_or l (t * 2) 0) (get_or l (t * 2 + 1) 0)
unfolding from_halves
get_or-from t [] p = omega arith
get_or-from t (a ∷ []) p = omega arith
get_or-from zero (a ∷ b ∷ xs) p = refl
get_or-from (suc t) (a ∷ b ∷ xs) p =
    get_or-from t xs (omega arith)
    ∙ sym (ap (λ (k : ℕ). of_halves (get_or (a ∷ b ∷ xs) k 0) (get_or (a ∷ b ∷ xs) (k + 1) 0)) (double t)
    ∙ ap (λ (k : ℕ). of_halves (get_or xs (t * 2) 0) (get_or (a ∷ b ∷ xs) k 0)) (next (t * 2)))
  where
    next : (n : ℕ) → suc (suc n) + 1 ≡ suc (suc (n + 1))
    next n = omega arith

-- a block of 16 words is one of 32 halves
pub block-from : (ws : List ℕ) (i : ℕ) → block_at (from_halves ws) i ≡ from_halves (take 32 (drop (i * 32) ws))
block-from ws i =
    sym (take-from 16 (drop (i * 32) ws)
    ∙ ap (take 16) (ap (λ (k : ℕ). from_halves (drop k ws)) (halved i) ∙ drop-from (i * 16) ws))
  where
    halved : (i : ℕ) → i * 32 ≡ i * 16 * 2
    halved i = omega arith

-- ---- to_halves

pub halves-append : (a b : List ℕ) → to_halves (a ++ b) ≡ to_halves a ++ to_halves b
unfolding to_halves
halves-append [] b = refl
halves-append (w ∷ ws) b = ap (λ (l : List ℕ). w / 2 ^ 32 % 2 ^ 32 ∷ w % 2 ^ 32 ∷ l) (halves-append ws b)

pub length-halves : (l : List ℕ) → length (to_halves l) ≡ length l * 2
unfolding to_halves
length-halves [] = refl
length-halves (w ∷ ws) = let e : length (to_halves ws) ≡ length ws * 2 = length-halves ws in omega (arith, e)
