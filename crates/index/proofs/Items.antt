-- The items of a board whose first items pass: each stands at its place, within the board, its type is listed, and its parent and its
-- session are items no later than it. Assumes nothing.
use Prim.Native.Nat.{ℕ, zero, suc, ◌≤◌, ◌<◌}
use native.Mathlib.Nat.{le_refl, not-suc-le-zero}
use native.Mathlib.Decide.{dec_le}
use native.Mathlib.Omega.{arith}
use mathlib.Core.Path.{◌≡◌}
use mathlib.Core.Logic.{◌≢◌, by_cases}
use mathlib.Core.Bool.{false}
use mathlib.Core.List.{List, ◌++◌}
use lib.ListN.{length, take}
use lib.Seq.{length-take-le}
use lib.Dec.{T, eqb}
use borrow.Author.Tests.{ne_eqb}
use Rattle.model.specs.Lists.{◌⇒◌}
use Rattle.model.specs.Words.{count_of}
use Rattle.model.specs.Codes.{genesis_type, session_type}
use Rattle.model.specs.Format.{Format}
use Rattle.model.specs.Item.{Item, item_at, code}
use Rattle.model.specs.Types.{Listed, fits}
use Rattle.model.specs.History.{History, entry, typed, place_of, history, entry_of}
use Rattle.model.specs.Roll.{Eligibility, on_roll_ok}
use Rattle.model.specs.Sound.{Shaped, Meets, Passed, none, next}
use Rattle.model.proofs.Tests.{by-test}
use Rattle.model.proofs.Parts.{take_part}
use Rattle.model.proofs.Parsing.{shaped-at, words-at}
use Rattle.model.proofs.Entries.{Fine, orderly, fine-at, parent-genesis, parent-bound, session-bound}
use Rattle.model.proofs.Beginnings.{made_at}
use Rattle.model.proofs.Unchecked.{length-history, history-take, entry-history}
use Rattle.format.specs.Format.{format_of}
use Rattle.format.specs.Layout.{item_of}
use Rattle.index.specs.Kept.{before, item_after, anyone, Kept}

-- ---- places and items, whether they pass or not

-- places go up
pub place-le : (board : List ℕ) (k n : ℕ) → k ≤ n → place_of (format_of board) board k ≤ place_of (format_of board) board n
unfolding place_of
place-le board k zero l = let none : k ≡ 0 = omega arith in rw none (le_refl 0)
place-le board k (suc n) l =
    by_cases (dec_le k n)
    (λ m. omega (arith, place-le board k n m))
    (λ m. let same : k ≡ suc n = omega arith in rw same (le_refl _))

-- item k, where it is one of the first n
module _ (board : List ℕ) (n : ℕ) where
  -- it was made after the items before it
  pub entry-made : (k : ℕ) → k < n → entry (before board n) (suc k) ≡ entry_of (before board k) (place_of (format_of board) board k) (item_after board k)
  entry-made k l = entry-history (format_of board) board n k l

  -- it stands at its place
  pub entry-item : (k : ℕ) → 1 ≤ k → k ≤ n → (entry (before board n) k).item ≡ item_at (format_of board) board (entry (before board n) k).place
  unfolding entry_of
  entry-item zero s l = absurd (not-suc-le-zero s)
  entry-item (suc k) s l = rw (entry-made k l)

  -- it ends before the item after the first n
  pub entry-end : (k : ℕ) → 1 ≤ k → k ≤ n → (item_of board (entry (before board n) k).place).end ≤ place_of (format_of board) board n
  unfolding entry_of item_of place_of
  entry-end zero s l = absurd (not-suc-le-zero s)
  entry-end (suc k) s l = rw (entry-made k l) (place-le board (suc k) n l)

-- ---- the items that pass

-- what passes with a roll passes with the roll left aside
pub meets-anyone : {f : Format} {on : Eligibility} {h : History} {v : List ℕ} {i : Item} → Meets f on h v i → Meets f anyone h v i
unfolding on_roll_ok ◌⇒◌
meets-anyone {i} m = record {
  listed = m.listed;
  counted = m.counted;
  shaped = m.shaped;
  address = m.address;
  previous = m.previous;
  parent = m.parent;
  time = m.time;
  phase = m.phase;
  only = m.only;
  content = m.content;
  enrolled = by-test (eqb (code i) session_type) (λ q. rw q tt) (λ q. rw q tt);
  verdict = m.verdict;
}

pub passed-anyone : {f : Format} {on : Eligibility} {ws vs : List ℕ} {h : History} → Passed f on ws vs h → Passed f anyone ws vs h
passed-anyone none = none
passed-anyone (next ws vs h v i p m) = next ws vs h v i (passed-anyone p) (meets-anyone m)

-- one item more passes, where it meets the rules and ends within the board
pub passed-more : (board : List ℕ) (k : ℕ) {vs v : List ℕ} → place_of (format_of board) board (suc k) ≤ length board
    → Passed (format_of board) anyone (take (place_of (format_of board) board k) board) vs (before board k)
    → Meets (format_of board) anyone (before board k) v (item_after board k)
    → Passed (format_of board) anyone (take (place_of (format_of board) board (suc k)) board) (vs ++ v) (before board (suc k))
unfolding place_of history
passed-more board k l p m =
    let at = place_of (format_of board) board k in
    let place : length (take at board) ≡ at = length-take-le at board (omega (arith, l)) in
    let more = rw place at (next _ _ _ _ _ p m) in
    rw (take_part at _ board, ← words-at (format_of board) board at l) more

-- the item after the first k meets the rules, under some verdict, and the first k pass
pub record Met (board : List ℕ) (k : ℕ) : Type 0 where
  pub verdict : List ℕ
  pub meets : Meets (format_of board) anyone (before board k) verdict (item_after board k)
  pub words : List ℕ
  pub verdicts : List ℕ
  pub passed : Passed (format_of board) anyone words verdicts (before board k)

module _ {board index : List ℕ} {n : ℕ} (kept : Kept board index n) where
  pub item-within : (k : ℕ) → 1 ≤ k → k ≤ n
      → ((item_of board (entry (before board n) k).place).end ≤ length board)
      × ((item_of board (entry (before board n) k).place).end ≤ place_of (format_of board) board n)
  item-within k s l = let end = entry-end board n k s l in (omega (arith, kept.within), end)

  -- each part has its length
  pub entry-shaped : (k : ℕ) → 1 ≤ k → k ≤ n → Shaped (format_of board) (entry (before board n) k).item
  unfolding item_of
  entry-shaped k s l = rw (entry-item board n k s l) (shaped-at (format_of board) board _ (item-within k s l).0)

  -- its type is listed, its count fits, its parent and its session stand where they should
  pub entry-fine : (k : ℕ) → 1 ≤ k → k ≤ n → Fine (format_of board) (before board n) (entry (before board n) k)
  entry-fine k s l = fine-at (orderly kept.passed) k s (omega (arith, length-history (format_of board) board n))

  abbrev pub entry_listed : (k : ℕ) → 1 ≤ k → k ≤ n → Listed (format_of board) (entry (before board n) k).item.head
  entry_listed k s l = (entry-fine k s l).type

  pub entry-fits : (k : ℕ) (s : 1 ≤ k) (l : k ≤ n)
      → T (fits (entry_listed k s l).row.counts (count_of (entry (before board n) k).item.head))
  entry-fits k s l = rw (entry-shaped k s l).content at (entry-fine k s l).words

  pub entry-met : (k : ℕ) → k < n → Met board k
  unfolding entry_of
  entry-met k l =
      let less : k ≤ n = omega arith in
      let m = made_at kept.passed k (omega (arith, length-history (format_of board) board n)) in
      let same = history-take (format_of board) board n k less in
      record {
        verdict = m.verdict;
        meets = rw (same, entry-made board n k l) at m.meets;
        words = m.before.words;
        verdicts = m.before.verdicts;
        passed = rw same at m.before.passed;
      }

  -- a parent is earlier; genesis has its own number
  pub entry-parent-earlier : (k : ℕ) → 1 ≤ k → k ≤ n → code (entry (before board n) k).item ≢ genesis_type → (entry (before board n) k).parent < k
  unfolding entry_of
  entry-parent-earlier zero s l q = absurd (not-suc-le-zero s)
  entry-parent-earlier (suc k) s l q =
      let later : eqb (code (item_after board k)) genesis_type ≡ false = ne_eqb _ _ (rw (entry-made board n k l) at q) in
      rw (entry-made board n k l) (omega (arith, parent-bound (before board k) (item_after board k) later, length-history (format_of board) board k))

  pub entry-parent-bound : (k : ℕ) → 1 ≤ k → k ≤ n → (1 ≤ (entry (before board n) k).parent) × ((entry (before board n) k).parent ≤ k)
  unfolding entry_of
  entry-parent-bound zero s l = absurd (not-suc-le-zero s)
  entry-parent-bound (suc k) s l =
      let h = before board k in
      let i = item_after board k in
      let size = length-history (format_of board) board k in (
        (entry-fine (suc k) s l).parent-some,
        rw (entry-made board n k l) (by-test (eqb (code i) genesis_type) (λ q. omega (arith, parent-genesis h i q)) (λ q. omega (arith, parent-bound h i q))),
      )

  -- a session is no later, and is one
  pub entry-session-bound : (k : ℕ) → 1 ≤ k → k ≤ n → (entry (before board n) k).session ≤ k
  unfolding entry_of
  entry-session-bound zero s l = absurd (not-suc-le-zero s)
  entry-session-bound (suc k) s l =
      let m = entry-met k l in
      rw (entry-made board n k l) (omega (arith, session-bound m.meets (orderly m.passed), length-history (format_of board) board k))

  pub entry-session : (k : ℕ) → 1 ≤ k → k ≤ n → 1 ≤ (entry (before board n) k).session
      → T (typed session_type (entry (before board n) (entry (before board n) k).session))
  entry-session k s l = (entry-fine k s l).session-typed
