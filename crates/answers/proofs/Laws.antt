-- Laws of the answers: words written over the first of a buffer, and others behind them. Assumes nothing.
use Prim.Native.Nat.{ℕ, ◌+◌, ◌-◌, ◌≤◌}
use native.Mathlib.Omega.{arith}
use mathlib.Core.Path.{◌≡◌, refl, ap}
use mathlib.Core.List.{List, ◌++◌, append-nil, append_assoc}
use lib.ListN.{length, take, drop, length-append, length-drop, drop_of_length-le}
use lib.Seq.{take_at, take_all, drop_at, drop-drop}
use borrow.Rule.Slice.PartMut.{put_mid}
use Rattle.model.specs.Report.{Report}
use Rattle.answers.specs.Words.{overwritten, head_words, answer_words, audit_size}

-- words over those of a buffer from a place on, behind others that end there
module _ (a b l : List ℕ) where
  abbrev first : List ℕ
  first = overwritten a l

  size : length a ≤ length l → length first ≡ length l
  size room = omega (arith, length-append a (drop (length a) l), length-drop (length a) l)

  behind-first : length a + length b ≤ length l
      → put_mid (length a) (length first - length a) first (overwritten b (take (length first - length a) (drop (length a) first)))
      ≡ overwritten (a ++ b) l
  behind-first room =
      let whole = size (omega arith) in
      let rest : drop (length a) first ≡ drop (length a) l = drop_at a (drop (length a) l) (length a) refl in
      let rest_size : length (drop (length a) l) ≡ length first - length a = omega (arith, length-drop (length a) l) in
      rw (
        take_at a (drop (length a) l) (length a) refl,
        rest,
        take_all (length first - length a) (drop (length a) l) (omega arith),
        drop_of_length-le (drop (length a) l) {i = length first - length a} (omega arith),
        append-nil,
        append_assoc,
        length-append,
        drop-drop,
      ) refl

  pub behind-put : (n : ℕ) {l' m w : List ℕ} → length a ≡ n → n + length w ≤ length l → l' ≡ first → w ≡ b
      → m ≡ overwritten w (take (length l' - n) (drop n l')) → put_mid n (length l' - n) l' m ≡ overwritten (a ++ b) l
  behind-put n e room p q r = rw (r, p, ← e, q) (behind-first (omega (arith, ap length q)))

-- ---- how long they are

pub length-head_words : (r : Report) → length (head_words r) ≡ 6
unfolding head_words
length-head_words r = refl

pub length-answer_words : (r : Report) → length r.end ≡ 16 → length (answer_words r) ≡ audit_size
unfolding answer_words
length-answer_words r sixteen = omega (arith, length-append (head_words r) r.end, length-head_words r)
