-- The rows of both tables: a counted ballot's row is that of the last cast of its voter, each voter with a cast has one, and index row k says
-- what is known of item k. Paper: "Counted ballots", "Index rows". Assumes nothing.
use Prim.Native.Nat.{ℕ, zero, suc, ◌+◌, ◌-◌, ◌*◌, ◌≤◌, ◌<◌}
use native.Mathlib.Nat.{zero-add}
use native.Mathlib.Omega.{arith}
use native.Mathlib.Decide.{dec_le}
use mathlib.Core.Path.{◌≡◌, refl, sym, ap, ◌∙◌}
use mathlib.Core.Logic.{by_cases}
use mathlib.Core.Bool.{Bool, true, false}
use mathlib.Core.List.{List, [], ◌∷◌, ◌++◌, map}
use lib.ListN.{length, get_or, drop, replicate, length-drop, get_or-map}
use lib.Dec.{T, eqb, lit<}
use borrow.Author.Tests.{eq-eqb, eqb-true}
use Rattle.model.specs.Lists.{part, any, keep, latest, has}
use Rattle.model.specs.Codes.{cast_type}
use Rattle.model.specs.Format.{Format}
use Rattle.model.specs.Item.{code}
use Rattle.model.specs.Types.{in_session}
use Rattle.model.specs.History.{History, Entry, absent, entry, item_no, typed, main, main_item, main_items, main_number, closer}
use Rattle.model.specs.Counted.{Vote, vote_of, votes_in, same_voter, counted, voters, LastCast}
use Rattle.model.specs.Roll.{Eligibility}
use Rattle.model.specs.Audit.{index_row}
use Rattle.model.specs.Report.{place_column, parent_column, session_column, mains_column, closer_column, row_word, number_word, index_row_of, index_rows, filled}
use Rattle.model.specs.Sound.{Passed}
use Rattle.model.proofs.Tests.{by-test, passes, or_left, or_right}
use Rattle.model.proofs.Lists.{Every, any-of-map, turns, map-keep}
use Rattle.model.proofs.Numbers.{keep-entry}
use Rattle.model.proofs.Votes.{votes-cast, votes-other, voters-latest}
use Rattle.model.proofs.Ancestry.{numbered}
use Rattle.model.proofs.Tables.{get_or-index_rows, get_or-filled}

-- ---- main item n

main-map : (xs : History) (n : ℕ) → main_item (map (λ e. e.item) xs) n ≡ item_no xs n
unfolding main_item entry
main-map xs zero = refl
main-map xs (suc n) = get_or-map (λ (e : Entry). e.item) xs n absent

-- a main item stands under its main number
main-at : (h : History) (k : ℕ) → T (main (entry h k)) → main_item (main_items h) (main_number h k) ≡ item_no h k
main-at h k t = rw (← map-keep main (λ e. e) (λ e. e.item) h, main-map) (ap (λ (e : Entry). e.item) (keep-entry (λ e. e) h k t))

-- ---- the casts behind the first j items

module _ (h : History) where
  -- there is one more item
  pub item-here : (j : ℕ) (e : Entry) (es : List Entry) → drop j h ≡ e ∷ es → (entry h (suc j) ≡ e) × (suc j ≤ length h)
  unfolding entry
  item-here j e es q = ((turns h j e es q).at absent, omega (arith, simp length-drop at (ap length q)))

  among-more : (p : Vote → Bool) (e : Entry) (es : List Entry) → T (any p (votes_in h es)) → T (any p (votes_in h (e ∷ es)))
  unfolding any
  among-more p e es t =
      by-test (typed cast_type e) (λ s. rw (votes-cast h e es s) (or_right (p (vote_of h e)) _ t)) (λ s. rw (votes-other h e es s) t)

  -- a cast behind them is among their votes
  cast-among : (p : Vote → Bool) (j : ℕ) (es : List Entry) → drop j h ≡ es → (d : ℕ) → j < d → d ≤ length h → code (item_no h d) ≡ cast_type
      → T (p (vote_of h (entry h d))) → T (any p (votes_in h es))
  unfolding any
  cast-among p j [] q d l m c t = absurd (omega (arith, simp length-drop at (ap length q)))
  cast-among p j (e ∷ es) q d l m c t =
      by_cases (dec_le d (suc j))
      (λ n. let here : entry h d ≡ e = let same : d ≡ suc j = omega arith in rw same (item-here j e es q).0 in
      let cast = eq-eqb (code e.item) cast_type (sym (ap (λ (x : Entry). code x.item) here) ∙ c) in
      rw (votes-cast h e es cast) (or_left (p (vote_of h e)) _ (rw here at t)))
      (λ n. among-more p e es (cast-among p (suc j) es (turns h j e es q).after d (omega arith) m c t))

  module _ {f : Format} {on : Eligibility} {ws vs : List ℕ} (b : Passed f on ws vs h) where
    -- a cast with no later one of its voter
    last-cast : (j : ℕ) (e : Entry) (es : List Entry) → drop j h ≡ e ∷ es → typed cast_type e ≡ true
        → any (same_voter (vote_of h e)) (votes_in h es) ≡ false → LastCast h (vote_of h e) (suc j)
    unfolding vote_of in_session
    last-cast j e es q cast none =
        let (here, in-h) = item-here j e es q in
        let code_is : code (item_no h (suc j)) ≡ cast_type = ap (λ (x : Entry). code x.item) here ∙ eqb-true (code e.item) cast_type cast in
        let a = numbered b (suc j) (omega arith) in-h in
        record {
          inside = omega arith;
          cast = code_is;
          vote = rw here;
          last = λ d l m c same. rw none at (cast-among (same_voter (vote_of h e)) (suc j) es (turns h j e es q).after d l m c (passes (eq-eqb _ _ (sym same))));
          ballot = (a.ballot code_is).0;
          ballot_number = rw (← here) (main-at h (entry h (suc j)).parent (a.ballot code_is).1);
          session = (a.session_typed (rw code_is tt)).1;
        }

    last-casts : (j : ℕ) (es : List Entry) → drop j h ≡ es → Every (λ x. (c : ℕ) × LastCast h x c) (latest same_voter (votes_in h es))
    unfolding latest keep
    last-casts j [] q = tt
    last-casts j (e ∷ es) q =
        let rest = last-casts (suc j) es (turns h j e es q).after in
        by-test (typed cast_type e)
        (λ s. rw (votes-cast h e es s)
        (by-test (any (same_voter (vote_of h e)) (votes_in h es)) (λ a. rw a rest) (λ a. rw a ((suc j, last-cast j e es q s a), rest))))
        (λ s. rw (votes-other h e es s) rest)

    -- each counted ballot is that of the last cast of its voter
    pub counted-casts : Every (λ x. (c : ℕ) × LastCast h x c) (counted h)
    unfolding counted
    counted-casts = last-casts 0 h refl

  -- each voter with a cast has a row
  pub voter-counted : (c : ℕ) → 1 ≤ c → c ≤ length h → code (item_no h c) ≡ cast_type → T (has (vote_of h (entry h c)).voter (voters (counted h)))
  unfolding counted
  voter-counted c one all cast =
      let v = (vote_of h (entry h c)).voter in
      rw (any-of-map (eqb v) (λ x. x.voter) (latest same_voter (votes_in h h)), voters-latest v (votes_in h h))
      (cast-among (λ x. eqb v x.voter) 0 h refl c one all cast (passes (eq-eqb v v refl)))

-- ---- index rows, in a table with more words behind them

row_from : (rest : List ℕ) (h : History) (j : ℕ) (es : List Entry) (i : ℕ) → i < length es
    → part (index_row * i) index_row (index_rows h j es ++ rest) ≡ index_row_of h (j + i) (get_or es i absent)
unfolding index_rows index_row_of part
row_from rest h j [] i l = absurd (omega arith)
row_from rest h j (e ∷ es) zero l = let same : j + 0 ≡ j = omega arith in rw same
row_from rest h j (e ∷ es) (suc i) l =
    let place : index_row * suc i ≡ suc (suc (suc (suc (suc (index_row * i))))) = omega arith in
    let before : j + suc i ≡ suc j + i = omega arith in
    rw (place, before) (row_from rest h (suc j) es i (omega arith))

-- row k is that of item k
pub index-row : (n : ℕ) (h : History) (k : ℕ) → 1 ≤ k → k ≤ length h
    → part (index_row * (k - 1)) index_row (filled n (index_rows h 0 h)) ≡ index_row_of h (k - 1) (entry h k)
unfolding entry filled
index-row n h zero one all = absurd (omega arith)
index-row n h (suc k) one all =
    let before : suc k - 1 ≡ k = omega arith in
    rw before (rw zero-add at (row_from (replicate (n - length (index_rows h 0 h)) 0) h 0 h k all))

-- column by column: what row k of a table says of item k of h
pub record SaysOf (table : List ℕ) (h : History) (k : ℕ) : Type 0 where
  pub place : row_word table k place_column ≡ (entry h k).place
  pub parent : row_word table k parent_column ≡ (entry h k).parent
  pub session : row_word table k session_column ≡ number_word (entry h k).session
  pub mains : row_word table k mains_column ≡ main_number h (k - 1)
  pub closer : row_word table k closer_column ≡ number_word (closer h k)

pub index-says : (n : ℕ) (h : History) (k : ℕ) → 1 ≤ k → k ≤ length h → SaysOf (filled n (index_rows h 0 h)) h k
unfolding entry index_row_of
index-says n h zero one all = absurd (omega arith)
index-says n h (suc k) one all =
    let before : suc k - 1 ≡ k = omega arith in
    let column : (c : ℕ) → c < index_row → get_or (filled n (index_rows h 0 h)) (index_row * k + c) 0 ≡ get_or (index_row_of h k (get_or h k absent)) c 0 =
    λ c l. get_or-filled n (index_rows h 0 h) (index_row * k + c) ∙ get_or-index_rows h k c all l in
    record {
      place = rw before (column place_column (lit< tt));
      parent = rw before (column parent_column (lit< tt));
      session = rw before (column session_column (lit< tt));
      mains = rw before (column mains_column (lit< tt));
      closer = rw before (column closer_column (lit< tt));
    }
