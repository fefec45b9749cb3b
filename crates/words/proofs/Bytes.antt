-- Laws of words as bytes: how many they are, which they are, and that reading what was written gives the words again. Assumes nothing.
use mathlib.Core.Path.{◌≡◌, refl, ◌∙◌}
use mathlib.Core.List.{List, [], ◌∷◌, ◌++◌}
use Prim.Native.Nat.{ℕ, zero, suc, ◌+◌, ◌*◌, ◌/◌, ◌%◌, ◌^◌, ◌≤◌, ◌<◌}
use native.Mathlib.Numerals.{add-one}
use native.Mathlib.Nat.{suc-add, add-zero}
use native.Mathlib.Omega.{arith}
use lib.ListN.{length, take, drop, get_or, set, length-append, length-take, length-drop}
use lib.Seq.{sets, sets-eq, take_all, take-suc, take_at, drop_at, drop-drop, get_or-drop}
use Rattle.std.specs.Int.{from_be_bytes, to_be_bytes, w32}
use Rattle.std.specs.Simd.{first_chunks}
use Rattle.model.specs.Program.{from_bytes}
use Rattle.model.proofs.Program.{length-from-bytes}
use Rattle.words.specs.Bytes.{word_of, word_at, to_bytes}
use Rattle.words.proofs.Runs.{get_or-chunks, write-more}

-- word i is that of the four bytes at 4 * i
pub get_or-from_bytes : (bs : List ℕ) (i p : ℕ) → p ≡ i * 4 → i < length bs / 4 → get_or (from_bytes bs) i 0 ≡ word_at bs p
unfolding from_bytes
get_or-from_bytes [] i p e h = absurd (omega arith)
get_or-from_bytes (a ∷ []) i p e h = absurd (omega arith)
get_or-from_bytes (a ∷ b ∷ []) i p e h = absurd (omega arith)
get_or-from_bytes (a ∷ b ∷ c ∷ []) i p e h = absurd (omega arith)
get_or-from_bytes (a ∷ b ∷ c ∷ d ∷ bs) zero zero e h = refl
get_or-from_bytes (a ∷ b ∷ c ∷ d ∷ bs) zero (suc p) e h = absurd (omega arith)
get_or-from_bytes (a ∷ b ∷ c ∷ d ∷ bs) (suc i) (suc (suc (suc (suc p)))) e h = simp suc-add (get_or-from_bytes bs i p (omega arith) (omega arith))
get_or-from_bytes (a ∷ b ∷ c ∷ d ∷ bs) (suc i) zero e h = absurd (omega arith)
get_or-from_bytes (a ∷ b ∷ c ∷ d ∷ bs) (suc i) (suc zero) e h = absurd (omega arith)
get_or-from_bytes (a ∷ b ∷ c ∷ d ∷ bs) (suc i) (suc (suc zero)) e h = absurd (omega arith)
get_or-from_bytes (a ∷ b ∷ c ∷ d ∷ bs) (suc i) (suc (suc (suc zero))) e h = absurd (omega arith)

word-first : (xs : List ℕ) → from_be_bytes w32 (take 4 xs) ≡ word_of (get_or xs 0 0) (get_or xs 1 0) (get_or xs 2 0) (get_or xs 3 0)
word-first [] = refl
word-first (a ∷ []) = refl
word-first (a ∷ b ∷ []) = refl
word-first (a ∷ b ∷ c ∷ []) = refl
word-first (a ∷ b ∷ c ∷ d ∷ xs) = refl

word-four : (bs : List ℕ) (p : ℕ) → from_be_bytes w32 (take 4 (drop p bs)) ≡ word_at bs p
word-four bs p = word-first (drop p bs) ∙ simp (get_or-drop, add-zero)

pub four-is : (bs : List ℕ) (i : ℕ) (d : List ℕ) → i < length bs / 4 → from_be_bytes w32 (get_or (first_chunks 4 (length bs / 4) bs) i d) ≡ word_at bs (i * 4)
four-is bs i d h = rw (get_or-chunks 4 bs (length bs / 4) i d h) (word-four bs (i * 4))

-- a word more of those that the bytes hold, and all of them
module _ (bs d : List ℕ) (i : ℕ) where
  pub put-more : i < length bs / 4 → i < length d → set (take i (from_bytes bs) ++ drop i d) i (word_at bs (i * 4)) ≡ take (i + 1) (from_bytes bs) ++ drop (i + 1) d
  put-more hb hd =
      rw (← get_or-from_bytes bs i (i * 4) refl hb)
      (write-more (from_bytes bs) d i (omega (arith, length-from-bytes bs)) hd)

  pub put_all : i ≡ length bs / 4 → take i (from_bytes bs) ++ drop i d ≡ from_bytes bs ++ drop (length bs / 4) d
  put_all e = rw (take_all i (from_bytes bs) (omega (arith, length-from-bytes bs)), e)

pub length-to_bytes : (ws : List ℕ) → length (to_bytes ws) ≡ 4 * length ws
unfolding to_bytes
length-to_bytes [] = refl
length-to_bytes (w ∷ ws) = omega (arith, length-to_bytes ws)

pub to_bytes-append : (xs ys : List ℕ) → to_bytes (xs ++ ys) ≡ to_bytes xs ++ to_bytes ys
unfolding to_bytes
to_bytes-append [] ys = refl
to_bytes-append (x ∷ xs) ys = rw (to_bytes-append xs ys)

-- a number from its digits to the base 256
digits : (w a b c p q r s : ℕ) → p ≡ a → b ≡ 2 ^ 8 * a + q → c ≡ 2 ^ 8 * b + r → w ≡ 2 ^ 8 * c + s → word_of p q r s ≡ w
digits w a b c p q r s ea eb ec ed = omega arith

-- the four bytes of a word give it again
pub word_of-bytes : (w : ℕ) → w < 2 ^ 32 → word_of (w / 2 ^ 24 % 2 ^ 8) (w / 2 ^ 16 % 2 ^ 8) (w / 2 ^ 8 % 2 ^ 8) (w % 2 ^ 8) ≡ w
word_of-bytes w h =
    digits w (w / 2 ^ 24) (w / 2 ^ 16) (w / 2 ^ 8) (w / 2 ^ 24 % 2 ^ 8) (w / 2 ^ 16 % 2 ^ 8) (w / 2 ^ 8 % 2 ^ 8) (w % 2 ^ 8)
    (omega arith) (omega arith) (omega arith) (omega arith)

-- words written and read again are the same
pub from_bytes-to_bytes : (ws : List ℕ) → ((i : ℕ) → i < length ws → get_or ws i 0 < 2 ^ 32) → from_bytes (to_bytes ws) ≡ ws
unfolding from_bytes to_bytes
from_bytes-to_bytes [] h = refl
from_bytes-to_bytes (w ∷ ws) h = rw (word_of-bytes w (h 0 (omega arith)), from_bytes-to_bytes ws (λ i l. h (suc i) (omega arith)))

-- values stored behind a list
sets_behind : (a d vs : List ℕ) (n : ℕ) → length a ≡ n → length vs ≤ length d → sets (a ++ d) n vs ≡ a ++ vs ++ drop (length vs) d
sets_behind a d vs n e h =
    sets-eq vs (a ++ d) n (simp length-append (omega arith))
    ∙ rw (← drop-drop, take_at a d n e, drop_at a d n e)

-- the library's bytes of a word
pub bytes-of-word : (w : ℕ) → to_be_bytes w32 w ≡ to_bytes (w ∷ [])
unfolding to_bytes
bytes-of-word w = refl

-- a word more, written behind the words before it
pub write_word : (ws d : List ℕ) (i : ℕ) → i < length ws → 4 * i + 4 ≤ length d
    → sets (to_bytes (take i ws) ++ drop (4 * i) d) (4 * i) (to_bytes (get_or ws i 0 ∷ [])) ≡ to_bytes (take (i + 1) ws) ++ drop (4 * (i + 1)) d
write_word ws d i hw hd =
    let four = length-to_bytes (get_or ws i 0 ∷ []) in
    let before : length (to_bytes (take i ws)) ≡ 4 * i = simp (length-to_bytes, length-take) (omega arith) in
    let place : 4 * i + length (to_bytes (get_or ws i 0 ∷ [])) ≡ 4 * (i + 1) = omega arith in
    sets_behind (to_bytes (take i ws)) (drop (4 * i) d) (to_bytes (get_or ws i 0 ∷ [])) (4 * i) before (simp length-drop (omega arith))
    ∙ rw (drop-drop, place, add-one, take-suc ws i 0 hw, to_bytes-append)
