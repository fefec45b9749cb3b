-- Laws of what a running hash stands for: nothing at first, more with each piece, and its hash value in the end is that of the message.
use mathlib.Core.Path.{◌≡◌, refl, sym, ap, ap₂, ◌∙◌, subst}
use mathlib.Core.Logic.{⊎_elim}
use Prim.Native.Nat.{ℕ, ◌+◌, ◌-◌, ◌*◌, ◌/◌, ◌%◌, ◌≤◌, ◌<◌}
use mathlib.Core.List.{List, [], ◌++◌}
use native.Mathlib.Nat.{zero-add, zero-div, zero-mod, le_of_lt}
use native.Mathlib.Omega.{arith}
use lib.ListN.{length, take, drop, replicate, length-append, length-drop, length-replicate}
use lib.Seq.{length-take-le, drop-append-le, drop-append-add, drop-drop, drop-nil}
use Rattle.sha2_common.specs.Blocks.{HashOn, hash_from, hash_over}
use Rattle.sha2_common.specs.State.{RunningOn, stored, missing, whole_end, block_after, fresh, pending, fed, ended, Holds}
use Rattle.sha2_common.proofs.Places.{Sized, rest-short, blocks-within, blocks-behind, words-behind}
use Rattle.sha2_common.proofs.Places.{filling, missing-fits, room, left-whole, left-rest}
use Rattle.sha2_common.proofs.Blocks.{hash_from-on, hash_from-front}
use Rattle.sha2_common.proofs.Feed.{length-stored, take-stored, block_after-fill}

module _ {W : Type 0} (f : HashOn W) (z : Sized f) where
  -- ---- the block after a piece begins with the words that are not hashed yet

  module _ (b : List ℕ) (k : ℕ) (xs : List ℕ) (sized : length b ≡ f.size) where
    -- words that do not fill the block up
    module _ (p : length xs < missing f.size k) where
      few : stored b (k % f.size) xs ≡ block_after f b k xs
      few = let r = room f.size z k (length xs) p in block_after-fill f z b k xs r.0 r.1

      length-few : length (block_after f b k xs) ≡ f.size
      length-few =
          let r = room f.size z k (length xs) p in
          ap length (sym few) ∙ length-stored b (k % f.size) xs (omega (arith, r, sized)) ∙ sized

      pending-few : take ((k + length xs) % f.size) (block_after f b k xs)
          ≡ drop ((k % f.size + length xs) / f.size * f.size) (take (k % f.size) b ++ xs)
      pending-few =
          let r = room f.size z k (length xs) p in
          ap (take ((k + length xs) % f.size)) (sym few)
          ∙ take-stored b (k % f.size) xs ((k + length xs) % f.size) (omega (arith, r, sized)) r.3
          ∙ sym (ap (λ (j : ℕ). drop j (take (k % f.size) b ++ xs)) r.2)

    -- words that do
    module _ (p : missing f.size k ≤ length xs) where
      length-full : length (stored b (k % f.size) (take (missing f.size k) xs)) ≡ f.size
      length-full =
          let n = length-take-le (missing f.size k) xs p in
          let l = missing-fits f.size z k in
          length-stored b (k % f.size) (take (missing f.size k) xs) (omega (arith, n, l, sized)) ∙ sized

      length-many : length (block_after f b k xs) ≡ f.size
      unfolding block_after
      length-many =
          let l = length-full in
          let n = length-drop (whole_end f.size k (length xs)) xs in
          let r = left-rest f.size z k (length xs) p in
          length-stored (stored b (k % f.size) (take (missing f.size k) xs)) 0 (drop (whole_end f.size k (length xs)) xs) (omega (arith, l, n, r)) ∙ l

      pending-many : take ((k + length xs) % f.size) (block_after f b k xs)
          ≡ drop ((k % f.size + length xs) / f.size * f.size) (take (k % f.size) b ++ xs)
      unfolding block_after
      pending-many =
          let n = (left-rest f.size z k (length xs) p).0 ∙ sym (length-drop (whole_end f.size k (length xs)) xs) ∙ sym (zero-add _) in
          let l = length-take-le (k % f.size) b (rw sized (le_of_lt (rest-short f.size z k))) in
          let full = stored b (k % f.size) (take (missing f.size k) xs) in
          take-stored full 0 (drop (whole_end f.size k (length xs)) xs) ((k + length xs) % f.size) (omega arith) n
          ∙ sym (drop-append-add (take (k % f.size) b) xs (whole_end f.size k (length xs)))
          ∙ ap (λ (j : ℕ). drop j (take (k % f.size) b ++ xs))
          (ap (λ (j : ℕ). j + whole_end f.size k (length xs)) l ∙ left-whole f.size z k (length xs) p)

    length-block_after : length (block_after f b k xs) ≡ f.size
    length-block_after = ⊎_elim length-few length-many (filling (missing f.size k) (length xs))

    pending-after : take ((k + length xs) % f.size) (block_after f b k xs)
        ≡ drop ((k % f.size + length xs) / f.size * f.size) (take (k % f.size) b ++ xs)
    pending-after = ⊎_elim pending-few pending-many (filling (missing f.size k) (length xs))

  -- ---- Holds, from H(0) on

  module _ (start : List W) where
    pub holds-fresh : Holds f start (fresh f start) []
    unfolding fresh hash_from
    holds-fresh = record {
      counted = refl;
      chained = sym (ap (hash_from f start []) (zero-div f.size));
      sized = length-replicate f.size 0;
      filled = ap (λ (k : ℕ). take k (replicate f.size 0)) (zero-mod f.size) ∙ sym (drop-nil (0 / f.size * f.size));
    }

    module _ (s : RunningOn W) (m : List ℕ) (xs : List ℕ) (g : Holds f start s m) where
      -- what is pending and xs are the words behind the whole blocks of m
      behind : pending f s ++ xs ≡ drop (length m / f.size * f.size) (m ++ xs)
      behind =
          ap (λ (l : List ℕ). l ++ xs) g.filled
          ∙ sym (drop-append-le (length m / f.size * f.size) m xs (blocks-within f.size z (length m)))

      -- the hash value over all of it
      pub over : hash_over f s.chain (pending f s ++ xs) ≡ hash_over f start (m ++ xs)
      over =
          let q = length m / f.size in
          let l = ap length behind ∙ length-drop (q * f.size) (m ++ xs) ∙ ap (λ (n : ℕ). n - q * f.size) (length-append m xs) in
          ap₂ (λ (H : List W) (w : List ℕ). hash_from f H w (length (pending f s ++ xs) / f.size))
          (g.chained ∙ sym (hash_from-front f start m xs q (blocks-within f.size z (length m)))) behind
          ∙ sym (hash_from-on f start (m ++ xs) q (length (pending f s ++ xs) / f.size))
          ∙ ap (hash_from f start (m ++ xs))
          (blocks-behind f.size z (length m) (length xs) (length (pending f s ++ xs)) l
          ∙ ap (λ (n : ℕ). n / f.size) (sym (length-append m xs)))

      holds_more : Holds f start (fed f s xs) (m ++ xs)
      unfolding fed
      holds_more =
          let n = length-append m xs in
          let j = (s.count % f.size + length xs) / f.size * f.size in
          record {
            counted = ap (λ (k : ℕ). k + length xs) g.counted ∙ sym n;
            chained = over;
            sized = length-block_after s.block s.count xs g.sized;
            filled =
                pending-after s.block s.count xs g.sized ∙ ap (drop j) behind
                ∙ drop-drop j (length m / f.size * f.size) (m ++ xs)
                ∙ ap (λ (i : ℕ). drop i (m ++ xs))
                (ap (λ (c : ℕ). length m / f.size * f.size + (c % f.size + length xs) / f.size * f.size) g.counted
                ∙ words-behind f.size z (length m) (length xs) ∙ ap (λ (k : ℕ). k / f.size * f.size) (sym n));
          }

    -- words fed
    pub holds-fed : {s r : RunningOn W} {m : List ℕ} (xs : List ℕ) → Holds f start s m → r ≡ fed f s xs → Holds f start r (m ++ xs)
    holds-fed {s} {m = m} xs g e = subst (λ (t : RunningOn W). Holds f start t (m ++ xs)) (sym e) (holds_more s m xs g)

    -- the hash value in the end
    pub ended_held : {s : RunningOn W} {m : List ℕ} → Holds f start s m → ended f s ≡ hash_over f start (m ++ f.padding (length m))
    unfolding ended
    ended_held {s} {m} g =
        over s m (f.padding s.count) g ∙ ap (λ (k : ℕ). hash_over f start (m ++ f.padding k)) g.counted
