-- What is known of the item after the first n: its head, and the words of its content as they stand in the board. Assumes nothing.
use Prim.Native.Nat.{ℕ, suc, ◌+◌, ◌≤◌, ◌<◌}
use native.Mathlib.Omega.{arith}
use mathlib.Core.Path.{◌≡◌, sym, ap, ◌∙◌}
use mathlib.Core.List.{List}
use lib.ListN.{length, get_or}
use lib.Dec.{T}
use Rattle.model.specs.Words.{kind_of, count_of}
use Rattle.model.specs.Codes.{contest_type, round_type}
use Rattle.model.specs.Item.{item_at, item_length, code, word}
use Rattle.model.specs.History.{place_of, entry_of, parent_number, session_number}
use Rattle.model.specs.Phase.{round_number}
use Rattle.model.specs.Content.{contest_ok, round_ok}
use Rattle.model.proofs.Tests.{facts}
use Rattle.model.proofs.Rules.{content-rules}
use Rattle.format.specs.Format.{format_of}
use Rattle.format.proofs.Traits.{sets-few}
use Rattle.format.specs.Layout.{item_of}
use Rattle.format.specs.declared.item.Item.{Item}
use Rattle.format.proofs.Places.{end_is, word-is}
use Rattle.index.specs.Kept.{before, item_after}
use Rattle.index.specs.Known.{known_of, Passing}
use Rattle.index.specs.declared.Known.{Known}
use Rattle.index.proofs.Counts.{has_words, words-law}

-- ---- the item after the first n, as the code knows it

-- c is what is known of it, and it lies within the board
pub record Next (board : List ℕ) (n : ℕ) (c : Known) : Type 0 where
  pub known : c ≡ known_of board (entry_of (before board n) (place_of (format_of board) board n) (item_after board n))
  pub within : place_of (format_of board) board (suc n) ≤ length board

module _ {board : List ℕ} {n : ℕ} {c : Known} (a : Next board n c) where
  pub next-item : c.item ≡ item_of board (place_of (format_of board) board n)
  unfolding entry_of
  next-item = ap (λ (k : Known). k.item) a.known

  pub next-parent : c.parent ≡ parent_number (before board n) (item_after board n)
  unfolding entry_of
  next-parent = ap (λ (k : Known). k.parent) a.known

  pub next-session : c.session ≡ session_number (before board n) (item_after board n)
  unfolding entry_of
  next-session = ap (λ (k : Known). k.session) a.known

  pub next-kind : c.item.head.kind ≡ kind_of (item_after board n).head
  unfolding item_of item_at
  next-kind = ap (λ (i : Item). i.head.kind) next-item

  pub next-code : c.item.head.code ≡ code (item_after board n)
  unfolding item_of item_at
  next-code = ap (λ (i : Item). i.head.code) next-item

  pub next-end : c.item.end ≡ place_of (format_of board) board (suc n)
  unfolding place_of
  next-end = ap (λ (i : Item). i.end) next-item ∙ end_is board (place_of (format_of board) board n)

  -- content word k, where there is one
  pub next_word : (k : ℕ) → k < count_of (item_after board n).head
      → (c.item.content + k < length board) × (get_or board (c.item.content + k) 0 ≡ word k (item_after board n))
  unfolding item_of item_at item_length place_of
  next_word k l = let inside = a.within in rw next-item (omega arith, sym (word-is board (place_of (format_of board) board n) k l))

-- ---- the item that passes

pub passing-next : {board index : List ℕ} {n : ℕ} {c : Known} → Passing board index n c → Next board n c
passing-next p = record { known = p.known; within = p.within }

module _ {board index : List ℕ} {n : ℕ} {c : Known} (p : Passing board index n c) where
  typed : (t : ℕ) → c.item.head.code ≡ t → code (item_after board n) ≡ t
  typed t q = sym (next-code (passing-next p)) ∙ q

  -- content word 0, of a type that has one
  first_word : (t high : ℕ) → T (has_words t 1 high) → c.item.head.code ≡ t
      → (c.item.content < length board) × (get_or board c.item.content 0 ≡ word 0 (item_after board n))
  first_word t high some q =
      let add : c.item.content + 0 ≡ c.item.content = omega arith in
      rw add at (next_word (passing-next p) 0 (words-law board t 1 high _ some p.meets.listed (typed t q) p.meets.counted).0)

  -- a contest has a number that the widest set can hold
  pub contest-number : c.item.head.code ≡ contest_type
      → (c.item.content < length board) × (get_or board c.item.content 0 ≡ word 0 (item_after board n))
      × (get_or board c.item.content 0 < 256)
  unfolding has_words contest_ok
  contest-number q =
      let (inside, same) = first_word contest_type 65 tt q in
      let small = simp facts at (content-rules p.meets.content).contest (typed contest_type q) in
      (inside, same, omega (arith, sets-few board))

  -- a round has a number that the state has a place for
  pub round-number : c.item.head.code ≡ round_type
      → (c.item.content < length board) × (get_or board c.item.content 0 ≡ round_number (item_after board n))
      × (get_or board c.item.content 0 < 16)
  unfolding has_words round_ok
  round-number q =
      let (inside, same) = first_word round_type 13 tt q in
      let small = (simp facts at (content-rules p.meets.content).round (typed round_type q)).0.0 in
      (inside, same, omega arith)
