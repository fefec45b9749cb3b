-- How many content words an item of a type has, by the table of item types. Assumes nothing.
use Prim.Native.Nat.{ℕ, ◌≤◌}
use mathlib.Core.Path.{◌≡◌, ap}
use mathlib.Core.Bool.{Bool, ◌&&◌}
use mathlib.Core.List.{List}
use lib.Dec.{T}
use Rattle.model.specs.Words.{code_of, count_of}
use Rattle.model.specs.Codes.{genesis_type, contest_type, threshold_type, authorizer_type, round_type, session_type, ballot_type, extraction_type, verifier_type}
use Rattle.model.specs.Item.{Item, item_at, code}
use Rattle.model.specs.Format.{Format, Curve, secp256r1, secp384r1, secp521r1, format_on}
use Rattle.model.specs.Types.{table, Listed, fits}
use Rattle.model.specs.History.{entry}
use Rattle.model.proofs.Tests.{and-iff}
use Rattle.model.proofs.Table.{count_type, count-type-law, count_within, count-within-law}
use Rattle.model.proofs.Traits.{by-formats}
use Rattle.format.specs.Format.{hashes, format_of}
use Rattle.format.specs.Layout.{item_of}
use Rattle.index.specs.Kept.{before, Kept}
use Rattle.index.proofs.Items.{entry-item, entry_listed, entry-fits}

-- both widths of sets on a curve
abbrev on_curve : Curve → ℕ → ℕ → ℕ → Bool
on_curve k c low high = count_within (format_on hashes k 1) c low high && count_within (format_on hashes k 8) c low high

within : (k : Curve) (c low high : ℕ) → T (on_curve k c low high)
    → T (count_within (format_on hashes k 1) c low high) × T (count_within (format_on hashes k 8) c low high)
within k c low high = (and-iff (count_within (format_on hashes k 1) c low high) (count_within (format_on hashes k 8) c low high)).0

-- items of type c have from low to high content words, on boards of every format; where c, low and high are numerals, `tt` proves it
unfoldable pub has_words : ℕ → ℕ → ℕ → Bool
unfolding count_within table
has_words c low high = on_curve secp256r1 c low high && on_curve secp384r1 c low high && on_curve secp521r1 c low high

pub words-law : (board : List ℕ) {w : ℕ} (c low high n : ℕ) → T (has_words c low high) → (l : Listed (format_of board) w) → code_of w ≡ c
    → T (fits l.row.counts n) → (low ≤ n) × (n ≤ high)
unfolding has_words
words-law board {w} c low high n t =
    let (two, c521) = (and-iff (on_curve secp256r1 c low high && on_curve secp384r1 c low high) (on_curve secp521r1 c low high)).0 t in
    let (c256, c384) = (and-iff (on_curve secp256r1 c low high) (on_curve secp384r1 c low high)).0 two in
    let (a, a') = within secp256r1 c low high c256 in
    let (b, b') = within secp384r1 c low high c384 in
    let (d, d') = within secp521r1 c low high c521 in
    by-formats hashes (λ (f : Format). (l : Listed f w) → code_of w ≡ c → T (fits l.row.counts n) → (low ≤ n) × (n ≤ high))
    (count-within-law c low high n a) (count-within-law c low high n a') (count-within-law c low high n b) (count-within-law c low high n b')
    (count-within-law c low high n d) (count-within-law c low high n d') board

-- the contents that are read word by word
pub sizes : T (has_words genesis_type 17 18 && has_words contest_type 1 65 && has_words threshold_type 10 10 && has_words authorizer_type 9 9
    && has_words round_type 6 13 && has_words session_type 19 26 && has_words ballot_type 18 8712 && has_words extraction_type 8 8 && has_words verifier_type 8 8)
unfolding has_words
sizes = tt

module _ {board index : List ℕ} {n : ℕ} (kept : Kept board index n) where
  -- an item that passed has the words that its type allows
  pub entry-words : (k : ℕ) → 1 ≤ k → k ≤ n → (c low high : ℕ) → T (has_words c low high) → code (entry (before board n) k).item ≡ c
      → (low ≤ (item_of board (entry (before board n) k).place).head.count) × ((item_of board (entry (before board n) k).place).head.count ≤ high)
  unfolding item_of item_at
  entry-words k s l c low high t e =
      let head = ap (λ (i : Item). count_of i.head) (entry-item board n k s l) in
      rw head at (words-law board c low high _ t (entry_listed kept k s l) e (entry-fits kept k s l))

  -- exactly so many, where its type allows no other number
  pub entry-exactly : (k : ℕ) → 1 ≤ k → k ≤ n → (c m : ℕ) → T (count_type (format_of board) c m) → code (entry (before board n) k).item ≡ c
      → (item_of board (entry (before board n) k).place).head.count ≡ m
  unfolding item_of item_at
  entry-exactly k s l c m t e =
      let head = ap (λ (i : Item). count_of i.head) (entry-item board n k s l) in
      rw head at (count-type-law c m _ t (entry_listed kept k s l) e (entry-fits kept k s l))
