-- Laws of words in hexadecimal, put into bytes digit by digit and word by word. Paper: request (xi). Assumes nothing.
use Prim.Native.Nat.{ℕ, ◌+◌, ◌-◌, ◌*◌, ◌/◌, ◌%◌, ◌^◌, ◌≤◌, ◌<◌}
use native.Mathlib.Numerals.{add-one}
use native.Mathlib.Omega.{arith}
use mathlib.Core.Path.{◌≡◌, ap, subst, ◌∙◌}
use mathlib.Core.List.{List, [], ◌∷◌, ◌++◌, append-nil}
use lib.ListN.{length, take, get_or}
use lib.Seq.{sets, take-suc, take_all}
use Rattle.std.proofs.lemmas.List.{drop_all}
use borrow.Rule.Slice.PartMut.{put_mid}
use Rattle.words.proofs.Writing.{sets_first, part-sets}
use Rattle.exporting.specs.Export.{word_digits, hex_digit, hex_digits, hex_word, hex_words}
use Rattle.exporting.proofs.Hex.{length-hex_word, hex_words-append}
use Rattle.text.specs.declared.writer.Writer.{Writer}
use Rattle.text.specs.Put.{Put, Writes}
use Rattle.text.proofs.Placed.{writes-none, writes_then}

-- ---- a word

-- its eight digits
pub word-digits : (w : ℕ) → hex_word w
    ≡ hex_digit (w / 2 ^ 28 % 16) ∷ hex_digit (w / 2 ^ 24 % 16) ∷ hex_digit (w / 2 ^ 20 % 16) ∷ hex_digit (w / 2 ^ 16 % 16)
    ∷ hex_digit (w / 2 ^ 12 % 16) ∷ hex_digit (w / 2 ^ 8 % 16) ∷ hex_digit (w / 2 ^ 4 % 16) ∷ hex_digit (w % 16) ∷ []
unfolding hex_word hex_digits
word-digits w = let last : w / 1 % 16 ≡ w % 16 = omega arith in rw last

-- bytes written over as many are all that stands there
pub sets-all : (ds l : List ℕ) → length l ≡ length ds → sets l 0 ds ≡ ds
sets-all ds l same = sets_first l ds (omega arith) ∙ rw (drop_all (length ds) l (omega arith)) (append-nil ds)

-- ---- words

-- a word written over the part of a buffer from a place on
pub put-part : (l : List ℕ) (at w : ℕ) {digits : List ℕ} → digits ≡ hex_word w → at + word_digits ≤ length l
    → Put l at (hex_word w) (put_mid at (at + word_digits - at) l digits) (at + word_digits)
put-part l at w {digits} same room = record {
  fits = omega (arith, room, length-hex_word w);
  wrote = part-sets l digits (hex_word w) at (at + word_digits) same (omega (arith, length-hex_word w)) room;
  behind = omega (arith, length-hex_word w);
}

pub put-words-none : (u : Writer) → u.at ≤ length u.out.now → Writes u (hex_words []) u
unfolding hex_words
put-words-none u room = writes-none u room

hex_words-more : (words : List ℕ) (k : ℕ) → k < length words → hex_words (take (k + 1) words) ≡ hex_words (take k words) ++ hex_word (get_or words k 0)
unfolding hex_words
hex_words-more words k less =
    rw (add-one k, take-suc words k 0 less, hex_words-append)
    (ap (λ (ds : List ℕ). hex_words (take k words) ++ ds) (append-nil (hex_word (get_or words k 0))))

-- a word more
pub put-word-more : {u v w : Writer} (words : List ℕ) (k : ℕ) → k < length words → v.at ≡ u.at + word_digits * k
    → Writes u (hex_words (take k words)) v → Writes v (hex_word (get_or words k 0)) w
    → (Writes u (hex_words (take (k + 1) words)) w) × (w.at ≡ u.at + word_digits * (k + 1))
put-word-more words k less e p q = (
  rw (hex_words-more words k less) (writes_then p q),
  omega (arith, q.put.behind, length-hex_word (get_or words k 0)),
)

-- and all of them
pub put-words-all : {u v : Writer} (words : List ℕ) (k : ℕ) → length words ≤ k → Writes u (hex_words (take k words)) v → Writes u (hex_words words) v
put-words-all {u} {v} words k all p = subst (λ (ws : List ℕ). Writes u (hex_words ws) v) (take_all _ _ all) p
