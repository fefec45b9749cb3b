-- Laws of the running hash: what its block has after a piece, and feeding a piece in parts.
use mathlib.Core.Path.{◌≡◌, refl, sym, ap, ap₂, ◌∙◌}
use mathlib.Core.Logic.{⊎_elim}
use Prim.Native.Nat.{ℕ, ◌+◌, ◌-◌, ◌%◌, ◌≤◌, ◌<◌}
use mathlib.Core.List.{List, [], ◌++◌, append_assoc}
use native.Mathlib.Nat.{le_refl, le_of_eq, eq-or-lt_of_le, le_of_lt}
use native.Mathlib.Omega.{arith}
use lib.ListN.{length, take, drop, length-append, length-drop, drop_of_length-le, take-append-drop}
use lib.Seq.{length-take-le, take-add, take_all, take-length}
use lib.Seq.{paste-zero, take-paste, length-paste}
use Rattle.sha2_common.specs.Blocks.{HashOn, hash_over}
use Rattle.sha2_common.specs.State.{RunningOn, stored, missing, whole_end, block_after, pending, fed}
use Rattle.sha2_common.proofs.Places.{Sized, rest-short, whole-add, missing-fits, missing-ends, missing-none}
use Rattle.sha2_common.proofs.Places.{left-all, left-none, none_left, left-within, left-rest, between-whole}
use Rattle.sha2_common.proofs.Blocks.{length_part, hash_over-append, hash_over-few}

-- ---- words stored

pub length-stored : (b : List ℕ) (at : ℕ) (xs : List ℕ) → at + length xs ≤ length b → length (stored b at xs) ≡ length b
length-stored b at xs p = length-paste b at xs (length xs) p (le_refl (length xs))

-- no words
stored-none : (b : List ℕ) (at : ℕ) {xs : List ℕ} → xs ≡ [] → stored b at xs ≡ b
stored-none b at e = ap (stored b at) e ∙ sym (paste-zero b at [])

-- the words that were there, and those stored behind them
pub take-stored : (b : List ℕ) (at : ℕ) (xs : List ℕ) (n : ℕ) → at ≤ length b → n ≡ at + length xs
    → take n (stored b at xs) ≡ take at b ++ xs
take-stored b at xs n p e =
    ap (λ (k : ℕ). take k (stored b at xs)) e ∙ take-paste b at xs (length xs) p (le_refl (length xs))
    ∙ ap (λ (l : List ℕ). take at b ++ l) (take-length xs)

-- ---- parts of a list

-- the front of a list up to i, and from there up to e
pub take_more : (xs : List ℕ) (i e : ℕ) → i ≤ e → take i xs ++ take (e - i) (drop i xs) ≡ take e xs
take_more xs i e p = let n : i + (e - i) ≡ e = omega arith in sym (take-add i (e - i) xs) ∙ ap (λ (k : ℕ). take k xs) n

-- a list in three parts; the code has the last as a part of that length
rest_all : (xs : List ℕ) (e : ℕ) → take (length xs - e) (drop e xs) ≡ drop e xs
rest_all xs e = take_all (length xs - e) (drop e xs) (le_of_eq (length-drop e xs))

three-parts : (xs : List ℕ) (i e : ℕ) → i ≤ e → take i xs ++ take (e - i) (drop i xs) ++ take (length xs - e) (drop e xs) ≡ xs
three-parts xs i e p = ap₂ (λ (a b : List ℕ). a ++ b) (take_more xs i e p) (rest_all xs e) ∙ take-append-drop e xs

-- ---- the running hash

same-running : {W : Type 0} {c c' : List W} {b b' : List ℕ} {n n' : ℕ} → c ≡ c' → b ≡ b' → n ≡ n'
    → ◌≡◌ {A = RunningOn W} (record { chain = c; block = b; count = n }) (record { chain = c'; block = b'; count = n' })
same-running p q r = λ i. record { chain = p i; block = q i; count = r i }

module _ {W : Type 0} (f : HashOn W) where
  pub fed-count : (s : RunningOn W) (xs : List ℕ) {r : RunningOn W} → r ≡ fed f s xs → r.count ≡ s.count + length xs
  unfolding fed
  fed-count s xs e = ap (λ (h : RunningOn W). h.count) e

  -- ---- a piece in three parts: words that fill the block up, whole blocks, words left over

  abbrev pub first_part : ℕ → List ℕ → List ℕ
  first_part k xs = take (missing f.size k) xs

  abbrev pub whole_part : ℕ → List ℕ → List ℕ
  whole_part k xs = take (whole_end f.size k (length xs) - missing f.size k) (drop (missing f.size k) xs)

  abbrev pub last_part : ℕ → List ℕ → List ℕ
  last_part k xs = take (length xs - whole_end f.size k (length xs)) (drop (whole_end f.size k (length xs)) xs)

module _ {W : Type 0} (f : HashOn W) (z : Sized f) where
  -- ---- block_after

  -- words that do not go beyond the block, and are no block of their own
  pub block_after-fill : (b : List ℕ) (k : ℕ) (xs : List ℕ) → k % f.size + length xs ≤ f.size → length xs < f.size
      → stored b (k % f.size) xs ≡ block_after f b k xs
  unfolding block_after
  block_after-fill b k xs p q = ⊎_elim empty begun (eq-or-lt_of_le {n = 0} {m = k % f.size} (omega arith))
    where
      -- the block is empty: all are left over
      empty : 0 ≡ k % f.size → stored b (k % f.size) xs ≡ block_after f b k xs
      empty e =
          ap (λ (j : ℕ). stored b j xs) (sym e)
          ∙ ap₂ (λ (c l : List ℕ). stored c 0 l)
          (sym (stored-none b (k % f.size) (ap (λ (j : ℕ). take j xs) (missing-none f.size z k (sym e)))))
          (sym (ap (λ (j : ℕ). drop j xs) (left-all f.size z k (length xs) (sym e) q)))

      -- it is not: none are
      begun : 0 < k % f.size → stored b (k % f.size) xs ≡ block_after f b k xs
      begun e =
          let none = none_left f.size z k (length xs) e p in
          ap (stored b (k % f.size)) (sym (take_all (missing f.size k) xs none.0))
          ∙ sym (stored-none (stored b (k % f.size) (take (missing f.size k) xs)) 0 (drop_of_length-le xs none.1))

  -- whole blocks, where the block is empty
  block_after-whole : (b : List ℕ) (k : ℕ) (xs : List ℕ) → k % f.size ≡ 0 → length xs % f.size ≡ 0 → b ≡ block_after f b k xs
  unfolding block_after
  block_after-whole b k xs p q =
      let none = left-none f.size z k (length xs) p q in
      sym (stored-none b (k % f.size) (ap (λ (j : ℕ). take j xs) (missing-none f.size z k p)))
      ∙ sym (stored-none (stored b (k % f.size) (take (missing f.size k) xs)) 0 (drop_of_length-le xs none))

  -- ---- fed

  module _ (s : RunningOn W) (xs : List ℕ) (sized : length s.block ≡ f.size) where
    within : s.count % f.size ≤ length s.block
    within = rw sized (le_of_lt (rest-short f.size z s.count))

    length-pending : length (pending f s) ≡ s.count % f.size
    length-pending = length-take-le (s.count % f.size) s.block within

    length-behind : length (pending f s ++ xs) ≡ s.count % f.size + length xs
    length-behind = length-append (pending f s) xs ∙ ap (λ (n : ℕ). n + length xs) length-pending

    -- words that the block has room for, which is b with them
    module _ (b : List ℕ) (few : length xs < f.size) (put : b ≡ stored s.block (s.count % f.size) xs) where
      -- they do not fill it
      pub fed-room : s.count % f.size + length xs ≤ f.size → (s.count % f.size + length xs ≡ f.size → ⊥)
          → ◌≡◌ {A = RunningOn W} (record { chain = s.chain; block = b; count = s.count + length xs }) (fed f s xs)
      unfolding fed
      fed-room p q =
          let n = length-behind in
          same-running (sym (hash_over-few f z s.chain (pending f s ++ xs) (omega (arith, n))))
          (put ∙ block_after-fill s.block s.count xs p few) refl

      -- they do
      pub fed-full : s.count % f.size + length xs ≡ f.size → {r : List W} → r ≡ hash_over f s.chain b
          → ◌≡◌ {A = RunningOn W} (record { chain = r; block = b; count = s.count + length xs }) (fed f s xs)
      unfolding fed
      fed-full p e =
          let l = length-stored s.block (s.count % f.size) xs (le_of_eq (p ∙ sym sized)) ∙ sized in
          let all = take_all f.size (stored s.block (s.count % f.size) xs) (le_of_eq l) in
          let m = take-stored s.block (s.count % f.size) xs f.size within (sym p) in
          same-running (e ∙ ap (hash_over f s.chain) (put ∙ sym all ∙ m))
          (put ∙ block_after-fill s.block s.count xs (le_of_eq p) few) refl

  -- whole blocks, where the block is empty
  pub fed-blocks : (s : RunningOn W) (xs : List ℕ) {r : List W} → s.count % f.size ≡ 0 → length xs % f.size ≡ 0
      → r ≡ hash_over f s.chain xs
      → ◌≡◌ {A = RunningOn W} (record { chain = r; block = s.block; count = s.count + length xs }) (fed f s xs)
  unfolding fed
  fed-blocks s xs p q e =
      same-running
      (e ∙ ap (λ (l : List ℕ). hash_over f s.chain (l ++ xs)) (sym (ap (λ (k : ℕ). take k s.block) p)))
      (block_after-whole s.block s.count xs p q) refl

  -- ---- fed, in three parts

  -- c and d words are fed after the first part and after the second
  module _ (k : ℕ) (xs : List ℕ) (p : missing f.size k ≤ length xs) where
    pub length-first : length (first_part f k xs) ≡ missing f.size k
    length-first = length-take-le (missing f.size k) xs p

    length_whole : length (whole_part f k xs) ≡ whole_end f.size k (length xs) - missing f.size k
    length_whole = length_part xs (missing f.size k) (whole_end f.size k (length xs)) (left-within f.size z k (length xs) p).1

    length_last : length (last_part f k xs) ≡ length xs - whole_end f.size k (length xs)
    length_last = length_part xs (whole_end f.size k (length xs)) (length xs) (le_refl (length xs))

    pub first_fits : (k % f.size + length (first_part f k xs) ≤ f.size) × (length (first_part f k xs) < f.size)
    first_fits = let n = length-first in let l = missing-fits f.size z k in (rw n l.0, rw n l.1)

    pub whole-fits : {c : ℕ} → c ≡ k + length (first_part f k xs) → (c % f.size ≡ 0) × (length (whole_part f k xs) % f.size ≡ 0)
    whole-fits e = (
      ap (λ (n : ℕ). n % f.size) (e ∙ ap (λ (n : ℕ). k + n) length-first) ∙ (missing-ends f.size z k).0,
      ap (λ (n : ℕ). n % f.size) length_whole ∙ between-whole f.size z k (length xs),
    )

    pub none-behind : {c d : ℕ} → c ≡ k + length (first_part f k xs) → d ≡ c + length (whole_part f k xs) → d % f.size ≡ 0
    none-behind {c} e g =
        let w = whole-fits e in ap (λ (n : ℕ). n % f.size) g ∙ whole-add f.size z c (length (whole_part f k xs)) w.0 w.1

    pub last_fits : (d : ℕ) → d % f.size ≡ 0 → (d % f.size + length (last_part f k xs) ≤ f.size) × (length (last_part f k xs) < f.size)
    last_fits d e =
        let l = length_last in
        let n = (left-rest f.size z k (length xs) p).1 in
        (omega (arith, l, n), omega (arith, l, n))

    -- none of the calls goes beyond the words of all
    pub first-within : k + length (first_part f k xs) ≤ k + length xs
    first-within = let n = length-first in omega (arith, n)

    pub whole-within : {c : ℕ} → c ≡ k + length (first_part f k xs) → c + length (whole_part f k xs) ≤ k + length xs
    whole-within e =
        let n = length-first in
        let w = length_whole in
        let ends = left-within f.size z k (length xs) p in
        omega (arith, n, w, ends)

    pub last-all : {c d : ℕ} → c ≡ k + length (first_part f k xs) → d ≡ c + length (whole_part f k xs)
        → d + length (last_part f k xs) ≡ k + length xs
    last-all e g =
        let n = length-first in
        let w = length_whole in
        let l = length_last in
        let ends = left-within f.size z k (length xs) p in
        omega (arith, n, w, l, ends)

  -- whole blocks behind whole blocks, and words behind them
  hash_over-parts : (H : List W) (P a b c : List ℕ) → length (P ++ a) % f.size ≡ 0 → length b % f.size ≡ 0
      → hash_over f (hash_over f (hash_over f H (P ++ a)) b) c ≡ hash_over f H (P ++ (a ++ b ++ c))
  hash_over-parts H P a b c p q =
      let n = ap (λ (j : ℕ). j % f.size) (length-append (P ++ a) b) ∙ whole-add f.size z (length (P ++ a)) (length b) p q in
      ap (λ (G : List W). hash_over f G c) (sym (hash_over-append f z H (P ++ a) b p)) ∙ sym (hash_over-append f z H (P ++ a ++ b) c n)
      ∙ ap (hash_over f H) (ap (λ (l : List ℕ). l ++ c) (append_assoc P a b) ∙ append_assoc P (a ++ b) c)

  module _ (s : RunningOn W) (xs : List ℕ) (sized : length s.block ≡ f.size) (p : missing f.size s.count ≤ length xs) where
    fed-parts : fed f (fed f (fed f s (first_part f s.count xs)) (whole_part f s.count xs)) (last_part f s.count xs) ≡ fed f s xs
    unfolding fed block_after
    fed-parts =
        let k = s.count in
        let a = first_part f s.count xs in
        let w = whole_part f s.count xs in
        let c = last_part f s.count xs in
        let first = first_fits k xs p in
        let full = whole-fits k xs p refl in
        let none = none-behind k xs p refl refl in
        let last = last_fits k xs p (k + length a + length w) none in
        let behind = ap (λ (n : ℕ). n % f.size) (length-behind s a sized ∙ ap (λ (n : ℕ). k % f.size + n) (length-first k xs p)) in
        same-running
        (ap₂ (λ (x y : List ℕ). hash_over f (hash_over f (hash_over f s.chain (pending f s ++ a)) x) y)
        (ap (λ (j : ℕ). take j (block_after f s.block k a) ++ w) full.0)
        (ap (λ (j : ℕ). take j (block_after f (block_after f s.block k a) (k + length a) w) ++ c) none)
        ∙ hash_over-parts s.chain (pending f s) a w c (behind ∙ (missing-ends f.size z k).1) full.1
        ∙ ap (λ (l : List ℕ). hash_over f s.chain (pending f s ++ l))
        (three-parts xs (missing f.size k) (whole_end f.size k (length xs)) (left-within f.size z k (length xs) p).0))
        (sym (block_after-fill (block_after f (block_after f s.block k a) (k + length a) w) (k + length a + length w) c last.0 last.1)
        ∙ ap (λ (j : ℕ). stored (block_after f (block_after f s.block k a) (k + length a) w) j c) none
        ∙ ap₂ (λ (x y : List ℕ). stored x 0 y)
        (sym (block_after-whole (block_after f s.block k a) (k + length a) w full.0 full.1)
        ∙ sym (block_after-fill s.block k a first.0 first.1))
        (rest_all xs (whole_end f.size k (length xs))))
        (last-all k xs p refl refl)

    -- the calls, one after the other
    pub fed-three : {t u r : RunningOn W} → t ≡ fed f s (first_part f s.count xs) → u ≡ fed f t (whole_part f s.count xs)
        → r ≡ fed f u (last_part f s.count xs) → r ≡ fed f s xs
    fed-three e g h =
        h
        ∙ ap (λ (r : RunningOn W). fed f r (last_part f s.count xs)) (g ∙ ap (λ (r : RunningOn W). fed f r (whole_part f s.count xs)) e)
        ∙ fed-parts
