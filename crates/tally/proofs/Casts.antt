-- What one more item that passes makes of the counted ballots, and where a cast's row is read from. Assumes nothing.
use Prim.Native.Nat.{ℕ, zero, suc, ◌+◌, ◌-◌, ◌*◌, ◌≤◌, ◌<◌}
use native.Mathlib.Numerals.{add-one}
use native.Mathlib.Omega.{arith}
use mathlib.Core.Path.{◌≡◌, sym, ap, ◌∙◌}
use mathlib.Core.Bool.{false}
use mathlib.Core.List.{List, [], ◌∷◌, ◌++◌}
use lib.ListN.{length, get_or, take, length-append}
use lib.Seq.{sets, length-sets, length-take-le, take-suc}
use lib.Dec.{T, eqb, eqb→eq, lit<}
use borrow.Author.Tests.{ne_eqb, le-leb}
use Rattle.model.specs.Lists.{part, count}
use Rattle.model.specs.Item.{code, is_main, word}
use Rattle.model.specs.Types.{in_session}
use Rattle.model.specs.History.{History, Entry, entry, item_no, absent, main, main_number, typed, place_of, history, entry_of, parent_number, session_number}
use Rattle.model.specs.Counted.{Vote, vote_of, counted, without}
use Rattle.model.specs.Audit.{ballot_row, item_limit, ballot_limit}
use Rattle.model.specs.Sound.{next}
use Rattle.model.proofs.Tests.{passes, is_true}
use Rattle.model.proofs.Table.{main_code}
use Rattle.model.proofs.Lists.{count-append, count-take, count-few}
use Rattle.model.proofs.Entries.{orderly, fine-parent, parent-some, parent-main, parent-bound, parent-session, session-up}
use Rattle.model.proofs.OneItem.{counted-other, counted-cast}
use Rattle.model.proofs.Unchecked.{length-history}
use Rattle.model.proofs.Bound.{few-ballots}
use Rattle.format.specs.Format.{format_of}
use Rattle.index.specs.declared.Known.{Known}
use Rattle.index.specs.Kept.{before, item_after, Kept}
use Rattle.index.specs.Known.{IsKnown, Passing}
use Rattle.index.proofs.Counts.{has_words, entry-words}
use Rattle.words.proofs.Runs.{get_or-part}
use Rattle.index.proofs.Reading.{known-item, known-word}
use Rattle.state.proofs.Next.{passing-next, next-code, next-parent, next-session}
use Rattle.tally.specs.Rows.{HoldsRows}
use Rattle.tally.specs.Tallied.{Tallied}
use Rattle.tally.proofs.Table.{holds-put}

-- ---- main numbers

main_number-suc : (h : History) (k : ℕ) → k < length h → T (main (get_or h k absent)) → main_number h (suc k) ≡ main_number h k + 1
unfolding count
main_number-suc h k l t = rw (take-suc h k absent l, count-append main (take k h) (get_or h k absent ∷ []), is_true (main (get_or h k absent)) t)

-- one more than the main items before item k
pub number_is : (h : History) (k : ℕ) → 1 ≤ k → k ≤ length h → T (main (entry h k)) → main_number h (k - 1) + 1 ≡ main_number h k
unfolding entry
number_is h zero s l t = absurd (omega arith)
number_is h (suc k) s l t = let same : suc k - 1 ≡ k = omega arith in rw same (sym (main_number-suc h k l t))

pub number_small : {board index : List ℕ} {n : ℕ} → Kept board index n → (k : ℕ) → main_number (before board n) k ≤ item_limit
number_small {board} {index} {n} kept k =
    let h = before board n in
    omega (arith, count-take main h k, count-few main h, length-history (format_of board) board n, kept.few)

-- ---- one more item

module _ {board index : List ℕ} {n : ℕ} {c : Known} (p : Passing board index n c) where
  abbrev new : Entry
  new = entry_of (before board n) (length (take (place_of (format_of board) board n) board)) (item_after board n)

  -- the vote of a cast
  pub vote : Vote
  vote = vote_of (before board n) new

  longer : before board (n + 1) ≡ before board n ++ (new ∷ [])
  unfolding history
  longer = rw (add-one n, length-take-le (place_of (format_of board) board n) board p.kept.within)

  -- with it there are still few counted ballots, since it passes
  next-fit : length (counted (before board (n + 1))) ≤ ballot_limit
  next-fit =
      let few : length (before board (n + 1)) ≤ item_limit = omega (arith, length-history (format_of board) board (n + 1), p.more) in
      rw longer (few-ballots (next _ _ _ _ _ p.kept.passed p.meets) (rw longer at few))

  pub counted_same : (c.item.head.code ≡ 20 → ⊥) → counted (before board (n + 1)) ≡ counted (before board n)
  counted_same q = rw longer (counted-other p.kept.passed p.meets _ (λ e. q (next-code (passing-next p) ∙ e)))

  module _ (cast : c.item.head.code ≡ 20) where
    is-cast : code (item_after board n) ≡ 20
    is-cast = sym (next-code (passing-next p)) ∙ cast

    pub counted-more : counted (before board (n + 1)) ≡ without vote.voter (counted (before board n)) ++ (vote ∷ [])
    unfolding vote
    counted-more = rw longer (counted-cast p.kept.passed p.meets _ is-cast)

    later : eqb (code (item_after board n)) 1 ≡ false
    later = ne_eqb (code (item_after board n)) 1 (λ e. omega (arith, is-cast))

    other : eqb (code (item_after board n)) 16 ≡ false
    other = ne_eqb (code (item_after board n)) 16 (λ e. omega (arith, is-cast))

    -- its ballot is a main item before it
    pub ballot-in : (1 ≤ c.parent) × (c.parent ≤ n) × T (main (entry (before board n) c.parent))
    ballot-in =
        let i = item_after board n in
        let main-is : T (is_main i) = passes (main_code p.meets.listed ∙ le-leb (code i) 34 (omega (arith, is-cast))) in
        rw (next-parent (passing-next p)) (
          parent-some p.meets,
          omega (arith, parent-bound (before board n) i later, length-history (format_of board) board n),
          parent-main p.meets later main-is,
        )

    -- so is its session
    session-is : session_number (before board n) (item_after board n) ≡ (entry (before board n) (parent_number (before board n) (item_after board n))).session
    session-is = session-up (before board n) (item_after board n) later other

    pub session-in : (1 ≤ c.session) × (c.session ≤ n) × T (typed 16 (entry (before board n) c.session))
    unfolding in_session
    session-in =
        let o = orderly p.kept.passed in
        let a = fine-parent p.meets o later in
        let some = parent-session p.meets o (rw is-cast tt) later other in
        rw (next-session (passing-next p), session-is) (some, omega (arith, a.session-in, length-history (format_of board) board n), a.session-typed some)

    -- the words that its row is made of
    module _ (e : Known) (k : IsKnown board (entry (before board n) c.session) e) where
      pub session-words : 19 ≤ e.item.head.count
      unfolding has_words
      session-words =
          let (s, l, t) = session-in in
          rw (known-item k) (entry-words p.kept c.session s l 16 19 26 tt (eqb→eq _ _ t)).0

      module _ (content : List ℕ) (is : content ≡ part e.item.content e.item.head.count board) where
        session-word : (j : ℕ) → j < 19 → get_or content j 0 ≡ word j (item_no (before board n) (session_number (before board n) (item_after board n)))
        session-word j l =
            rw is (get_or-part board e.item.content e.item.head.count j (omega (arith, session-words)))
            ∙ known-word k j (omega (arith, session-words))
            ∙ ap (λ (m : ℕ). word j (item_no (before board n) m)) (next-session (passing-next p))

        pub voter-is : get_or content 0 0 ≡ vote.voter
        unfolding vote vote_of entry_of
        voter-is = session-word 0 (lit< tt)

        pub weight_is : get_or content 1 0 ≡ vote.weight
        unfolding vote vote_of entry_of
        weight_is = session-word 1 (lit< tt)

    pub ballot-is : main_number (before board n) c.parent ≡ vote.ballot
    unfolding vote vote_of entry_of
    ballot-is = ap (main_number (before board n)) (next-parent (passing-next p))

-- ---- the table after it

-- it has so many rows
module _ {board index ballots : List ℕ} {n rows : ℕ} {c : Known} (p : Passing board index n c) (size : rows ≡ length (counted (before board n)))
    (t : Tallied board ballots n) where
  pub after_same : (c.item.head.code ≡ 20 → ⊥)
      → Tallied board ballots (n + 1) × (rows ≡ length (counted (before board (n + 1))))
  after_same q = (record { rows = rw (counted_same p q) t.rows; room = t.room }, rw (counted_same p q) size)

  -- a cast of the voter v, whose rows were dropped
  module _ (cast : c.item.head.code ≡ 20) (v r : ℕ) (voter : v ≡ (vote p).voter) (l : List ℕ) (same : length l ≡ length ballots)
      (kept : HoldsRows l r (without v (counted (before board n)))) where
    counted_is : counted (before board (n + 1)) ≡ without v (counted (before board n)) ++ (vote p ∷ [])
    counted_is = counted-more p cast ∙ rw (← voter)

    -- one row more still fits: the table has room for as many as there can be
    pub row_fits : (r < ballot_limit) × (ballot_row * r + ballot_row ≤ length l)
    row_fits = let less : r < ballot_limit = omega (arith, kept.number, rw (counted_is, length-append) at (next-fit p)) in (less, omega (arith, t.room))

    pub after-cast : (ballot weight : ℕ) (more : List ℕ)
        → ballot ≡ (vote p).ballot → weight ≡ (vote p).weight → more ≡ sets l (ballot_row * r) (ballot ∷ v ∷ weight ∷ [])
        → Tallied board more (n + 1) × (r + 1 ≡ length (counted (before board (n + 1))))
    after-cast ballot weight more b w e =
        let put = holds-put l r (without v (counted (before board n))) (vote p) kept row_fits.1 in
        let written : more ≡ sets l (ballot_row * r) ((vote p).ballot ∷ (vote p).voter ∷ (vote p).weight ∷ []) = e ∙ rw (b, voter, w) in (
          record { rows = rw (counted_is, written) put.rows; room = rw (written, length-sets l (ballot_row * r) _) (omega (arith, t.room)) },
          rw counted_is put.number,
        )
