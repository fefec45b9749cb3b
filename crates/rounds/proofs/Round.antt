-- A round as it stands on the board, and the round under an item number. Assumes nothing.
use Prim.Native.Nat.{ℕ, ◌+◌, ◌-◌, ◌≤◌, ◌<◌}
use native.Mathlib.Omega.{arith}
use mathlib.Core.Path.{◌≡◌, sym, ap, ◌∙◌}
use mathlib.Core.Logic.{◌≢◌}
use mathlib.Core.Bool.{Bool, true, false}
use mathlib.Core.List.{List}
use lib.Bits.{bit_or, or_zero_r}
use lib.ListN.{length, get_or}
use lib.Dec.{leb, ltb}
use borrow.Author.Tests.{ne_eqb, le-leb, lt-leb}
use Rattle.model.specs.Lists.{if◌then◌otherwise◌, part}
use Rattle.model.specs.Words.{pair}
use Rattle.model.specs.Codes.{round_type}
use Rattle.model.specs.Item as model
use Rattle.model.specs.Item.{item_at, item_length}
use Rattle.model.specs.History.{History, entry, item_no}
use Rattle.model.specs.Phase.{is_open, round_start, round_end, round_contests}
use Rattle.model.proofs.Parts.{length_part, part-part}
use Rattle.model.proofs.Genesis.{round-count}
use Rattle.model.proofs.Unchecked.{length-history}
use Rattle.words.proofs.Runs.{get_or-part, pair-part}
use Rattle.format.specs.Format.{format_of}
use Rattle.format.specs.Layout.{item_of}
use Rattle.format.specs.declared.item.Item.{Item}
use Rattle.format.proofs.Places
use Rattle.format.proofs.Traits.{sets-few}
use Rattle.index.specs.Kept.{before, Kept}
use Rattle.index.specs.Known.{IsKnown}
use Rattle.index.specs.declared.Known.{Known}
use Rattle.index.proofs.Counts.{entry-exactly}
use Rattle.index.proofs.Reading.{known-item}
use Rattle.rounds.specs.Open.{IsRound, InForce, open_under, word_under}

-- ---- its words

-- two words of a part, as a number
pair_inside : (ws : List ℕ) (p n k : ℕ) → k + 2 ≤ n → p + n ≤ length ws → pair (part k 2 (part p n ws)) ≡ pair (part (p + k) 2 ws)
pair_inside ws p n k l m =
    let next : p + (k + 1) ≡ p + k + 1 = omega arith in
    pair-part (part p n ws) k (omega (arith, length_part p n ws m))
    ∙ (rw (get_or-part ws p n k (omega arith), get_or-part ws p n (k + 1) (omega arith), next))
    ∙ sym (pair-part ws (p + k) (omega arith))

module _ {board : List ℕ} {e : Known} (r : IsRound board e) where
  -- the places of its content, and of what stands behind
  pub round-places : (6 ≤ e.item.head.count) × (e.item.head.count ≤ 13)
      × (e.item.parent ≡ e.item.content + e.item.head.count) × (e.item.parent ≤ length board)
  unfolding item_of item_length
  round-places =
      let at = ap (λ (i : Item). i.content) r.item in
      let size = ap (λ (i : Item). i.head.count) r.item in
      let parent = ap (λ (i : Item). i.parent) r.item in
      let end = ap (λ (i : Item). i.end) r.item in
      let few = sets-few board in
      (omega (arith, r.words), omega (arith, r.words), omega arith, omega (arith, r.within))

  abbrev round : model.Item
  round = item_at (format_of board) board e.item.place

  content-is : part e.item.content e.item.head.count board ≡ round.content
  content-is = ap (λ (i : Item). part i.content i.head.count board) r.item ∙ Places.content-is board e.item.place

  content-length : length round.content ≡ e.item.head.count
  content-length =
      let (low, high, parent, within) = round-places in
      ap length (sym content-is) ∙ length_part e.item.content e.item.head.count board (omega arith)

  -- two words of the content as a number, where so many words stand behind
  pair-before : (k : ℕ) → 2 ≤ k → k ≤ 6 → pair (part (e.item.parent - k) 2 board) ≡ pair (part (length round.content - k) 2 round.content)
  pair-before k two six =
      let (low, high, parent, within) = round-places in
      let n = e.item.head.count in
      let place : e.item.content + (n - k) ≡ e.item.parent - k = omega arith in
      rw (content-length, ← content-is, ← place) (sym (pair_inside board e.item.content n (n - k) (omega arith) (omega arith)))

  pub round-start : pair (part (e.item.parent - 2 - 2) 2 board) ≡ round_start round
  round-start = let twice : e.item.parent - 2 - 2 ≡ e.item.parent - 4 = omega arith in rw twice (pair-before 4 (omega arith) (omega arith))

  pub round-end : pair (part (e.item.parent - 2) 2 board) ≡ round_end round
  round-end = pair-before 2 (omega arith) (omega arith)

  -- start ≤ time < end, by its two tests
  module _ (t start end : ℕ)
      (s : start ≡ pair (part (e.item.parent - 2 - 2) 2 board)) (f : end ≡ pair (part (e.item.parent - 2) 2 board)) where
    pub open_started : start ≤ t → ltb t end ≡ is_open t round
    unfolding is_open
    open_started l = rw (← round-start, ← round-end, ← s, ← f, le-leb start t l)

    pub open-unstarted : t < start → leb start t ≡ is_open t round
    unfolding is_open
    open-unstarted l = rw (← round-start, ← s, lt-leb start t l)

  pub round-contests : part (e.item.content + 1) (e.item.head.count - 5) board ≡ round_contests round
  round-contests =
      let (low, high, parent, within) = round-places in
      let n = e.item.head.count in
      rw (content-length, ← content-is) (sym (part-part 1 (n - 5) e.item.content n board (omega arith)))

-- ---- the round under item number k

module _ {board index : List ℕ} {n k : ℕ} (kept : Kept board index n) (f : InForce (before board n) k) (some : k ≢ 0) where
  pub force-range : (1 ≤ k) × (k ≤ n)
  force-range = let bound = f.bound in let size = length-history (format_of board) board n in (omega arith, omega arith)

  module _ {e : Known} (is : IsKnown board (entry (before board n) k) e) where
    place_is : e.item.place ≡ (entry (before board n) k).place
    unfolding item_of
    place_is = ap (λ (i : Item). i.place) (known-item is)

    pub item-under : item_at (format_of board) board e.item.place ≡ item_no (before board n) k
    item-under = rw place_is (sym is.item)

    pub round_under : IsRound board e
    round_under =
        let (low, high) = force-range in
        let size = entry-exactly kept k low high round_type (5 + (format_of board).sets) (round-count (format_of board)) (f.round low) in
        let same = ap (λ (i : Item). i.head.count) (known-item is) in
        record { item = known-item is ∙ ap (item_of board) (sym place_is); words = same ∙ size; within = is.within }

    -- where it is open at the time t, and where it is not
    pub open-under : (t : ℕ) (b : Bool) → b ≡ is_open t (item_at (format_of board) board e.item.place) → b ≡ open_under t (before board n) k
    unfolding open_under
    open-under t b q = rw (ne_eqb k 0 some) (q ∙ ap (is_open t) item-under)

    -- a set with its contests, where it is, and as it was, where it is not
    pub contests-open : (t : ℕ) (b : Bool) → b ≡ is_open t (item_at (format_of board) board e.item.place) → b ≡ true → (i : ℕ)
        → get_or (part (e.item.content + 1) (e.item.head.count - 5) board) i 0 ≡ word_under t (before board n) i k
    unfolding word_under if◌then◌otherwise◌
    contests-open t b q o i =
        rw (← open-under t b q, o) (ap (λ (s : List ℕ). get_or s i 0) (round-contests round_under ∙ ap round_contests item-under))

    pub contests-shut : (t : ℕ) (b : Bool) → b ≡ is_open t (item_at (format_of board) board e.item.place) → b ≡ false → (w i : ℕ)
        → w ≡ bit_or w (word_under t (before board n) i k)
    unfolding word_under if◌then◌otherwise◌
    contests-shut t b q o w i = rw (← open-under t b q, o, or_zero_r)

-- none under 0
module _ (t : ℕ) (h : History) (k : ℕ) (none : k ≡ 0) where
  pub open_none : false ≡ open_under t h k
  unfolding open_under
  open_none = rw none

  pub contests-none : (w i : ℕ) → w ≡ bit_or w (word_under t h i k)
  unfolding word_under if◌then◌otherwise◌
  contests-none w i = rw (← open_none, or_zero_r)
