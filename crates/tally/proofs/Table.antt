-- The ballot table: a voter's rows dropped one row at a time, and the weights added. Assumes nothing.
use mathlib.Core.Path.{◌≡◌, refl, sym, ap, ◌∙◌}
use mathlib.Core.Bool.{Bool, true, false, not}
use Rattle.std.specs.Simd.{first_chunks}
use Rattle.std.specs.List.{sum_by}
use Rattle.std.proofs.lemmas.List.{get_or-map}
use Rattle.std.proofs.lemmas.List.Sums.{sum_by-cons}
use mathlib.Core.List.{List, [], ◌∷◌, map, ◌++◌, append_assoc, append-nil}
use Prim.Native.Nat.{ℕ, ◌+◌, ◌-◌, ◌*◌, ◌/◌, ◌≤◌, ◌<◌}
use native.Mathlib.Nat.{add-zero}
use native.Mathlib.Numerals.{add-one}
use native.Mathlib.Omega.{arith}
use lib.ListN.{length, get_or, take, drop, replicate, length-append, length-replicate, replicate-append-replicate, drop_of_length-le}
use lib.Seq.{sets, sets-eq, length-sets, take-append_seam, drop-append-add, drop-append_seam, get_or-append-add, take_all, drop-cons, take-suc}
use lib.Dec.{eqb}
use borrow.Author.Tests.{eq-eqb, ne_eqb}
use Rattle.model.specs.Lists.{if◌then◌otherwise◌, keep}
use Rattle.model.specs.Counted.{Vote, without, total_weight}
use Rattle.model.specs.Audit.{ballot_row}
use Rattle.model.specs.Report.{ballot_rows, filled}
use Rattle.model.proofs.Tests.{by-test}
use Rattle.model.proofs.Lists.{keep_append}
use Rattle.model.proofs.Tables.{length-ballot_rows, ballot_rows-append, filled-append}
use Rattle.tally.specs.Rows.{HoldsRows, row_words, row_word, cleared, row_kept, number_kept}

abbrev zeros : ℕ → List ℕ
zeros n = replicate n 0

-- what stands for a vote that is not there
abbrev pub none : Vote
none = record { ballot = 0; voter = 0; weight = 0; content = [] }

-- ---- words in the middle of a list

sets-between : (a m n b : List ℕ) (i : ℕ) → length a ≡ i → length m ≡ length n → sets (a ++ (m ++ b)) i n ≡ a ++ (n ++ b)
sets-between a m n b i la e =
    let fits : length a + length n ≤ length (a ++ (m ++ b)) = simp length-append (omega arith) in
    let rest : drop (length n) (m ++ b) ≡ b = rw (← e) (drop-append_seam m b) in
    rw (← la) (sets-eq n (a ++ (m ++ b)) (length a) fits ∙ rw (take-append_seam a (m ++ b), drop-append-add a (m ++ b) (length n), rest, append_assoc))

get_or-past : (p q : List ℕ) (i c : ℕ) → length p ≡ i → get_or (p ++ q) (i + c) 0 ≡ get_or q c 0
get_or-past p q i c e = rw (← e) (get_or-append-add p q c 0)

zeros-more : (m n : ℕ) → m + 3 ≡ n → zeros m ++ (0 ∷ 0 ∷ 0 ∷ []) ≡ zeros n
zeros-more m n e = replicate-append-replicate m 3 0 ∙ ap zeros e

zeros-less : (m n : ℕ) → 3 + m ≡ n → zeros n ≡ (0 ∷ 0 ∷ 0 ∷ []) ++ zeros m
zeros-less m n e = sym (replicate-append-replicate 3 m 0 ∙ ap zeros e)

-- a row x y z between the rows that are kept and those still to be moved
module _ (a b : List ℕ) (kept k : ℕ) (la : length a ≡ ballot_row * kept) (le : kept ≤ k) (x y z : ℕ) where
  abbrev gap : List ℕ
  gap = zeros (ballot_row * k - ballot_row * kept)

  abbrev table : List ℕ
  table = a ++ (gap ++ (x ∷ y ∷ z ∷ b))

  front : length (a ++ gap) ≡ ballot_row * k
  front = simp (length-append, length-replicate) (omega arith)

  row_word_lem : (c : ℕ) → row_word table k c ≡ get_or (x ∷ y ∷ z ∷ b) c 0
  row_word_lem c = rw (← append_assoc a gap (x ∷ y ∷ z ∷ b)) (get_or-past (a ++ gap) (x ∷ y ∷ z ∷ b) (ballot_row * k) c front)

  row-cleared : cleared table k ≡ a ++ (zeros (ballot_row * (k + 1) - ballot_row * kept) ++ b)
  row-cleared =
      let wider = zeros-more (ballot_row * k - ballot_row * kept) (ballot_row * (k + 1) - ballot_row * kept) (omega arith) in
      rw (← wider, append_assoc, ← append_assoc a gap (0 ∷ 0 ∷ 0 ∷ b), ← append_assoc a gap (x ∷ y ∷ z ∷ b))
      (sets-between (a ++ gap) (x ∷ y ∷ z ∷ []) (0 ∷ 0 ∷ 0 ∷ []) b (ballot_row * k) front refl)

  row_moved : sets (cleared table k) (ballot_row * kept) (x ∷ y ∷ z ∷ [])
      ≡ (a ++ (x ∷ y ∷ z ∷ [])) ++ (zeros (ballot_row * (k + 1) - ballot_row * (kept + 1)) ++ b)
  row_moved =
      let free = zeros (ballot_row * (k + 1) - ballot_row * (kept + 1)) in
      let less = zeros-less (ballot_row * (k + 1) - ballot_row * (kept + 1)) (ballot_row * (k + 1) - ballot_row * kept) (omega arith) in
      rw (row-cleared, less, append_assoc, append_assoc)
      (sets-between a (0 ∷ 0 ∷ 0 ∷ []) (x ∷ y ∷ z ∷ []) (free ++ b) (ballot_row * kept) la refl)

-- ---- a voter's rows dropped

-- of the votes xs the first k were looked at, and `kept` of them are kept
pub record Dropped (voter n : ℕ) (xs : List Vote) (ballots : List ℕ) (kept k : ℕ) : Type 0 where
  pub words : ballots
      ≡ ballot_rows (without voter (take k xs))
      ++ (zeros (ballot_row * k - ballot_row * kept) ++ (ballot_rows (drop k xs) ++ zeros (n - ballot_row * length xs)))
  pub number : kept ≡ length (without voter (take k xs))

pub dropped-none : (voter n : ℕ) (xs : List Vote) (ballots : List ℕ) (rows : ℕ) → length ballots ≡ n → HoldsRows ballots rows xs
    → Dropped voter n xs ballots 0 0
unfolding filled keep ballot_rows
dropped-none voter n xs ballots rows e t = record {
  words = t.rows ∙ rw (e, length-ballot_rows xs);
  number = refl;
}

-- row k is looked at
module _ (voter n : ℕ) (xs : List Vote) (ballots : List ℕ) (kept k : ℕ) (le : kept ≤ k) (more : k < length xs)
    (d : Dropped voter n xs ballots kept k) where
  abbrev vote : Vote
  vote = get_or xs k none

  rest : List ℕ
  rest = ballot_rows (drop (k + 1) xs) ++ zeros (n - ballot_row * length xs)

  before : List ℕ
  before = ballot_rows (without voter (take k xs))

  before-length : length before ≡ ballot_row * kept
  unfolding before
  before-length = length-ballot_rows (without voter (take k xs)) ∙ ap (ballot_row *◌) (sym d.number)

  abbrev present : List ℕ
  present = table before rest kept k before-length le vote.ballot vote.voter vote.weight

  is-present : ballots ≡ present
  unfolding before rest ballot_rows
  is-present = d.words ∙ rw (add-one k, drop-cons xs k none more)

  kept-before : (b : Bool) → eqb vote.voter voter ≡ b
      → without voter (take (k + 1) xs) ≡ (if b then without voter (take k xs) otherwise without voter (take k xs) ++ (vote ∷ []))
  unfolding keep if◌then◌otherwise◌
  kept-before b e = rw (add-one k, take-suc xs k none more, keep_append (λ x. not (eqb x.voter voter)) (λ x. x) (take k xs) (vote ∷ []), e) (ends b)
    where
      ends : (b : Bool)
          → without voter (take k xs) ++ (if not b then vote ∷ [] otherwise [])
          ≡ (if b then without voter (take k xs) otherwise without voter (take k xs) ++ (vote ∷ []))
      ends true = append-nil _
      ends false = refl

  pub dropped-more : Dropped voter n xs (row_kept ballots kept k voter) (number_kept ballots kept k voter) (k + 1)
  unfolding row_kept number_kept if◌then◌otherwise◌ before rest ballot_rows
  dropped-more =
      let word = row_word_lem before rest kept k before-length le vote.ballot vote.voter vote.weight in
      rw (is-present, word 0, word 1, word 2)
      (by-test (eqb vote.voter voter)
      (λ q. rw q (record {
        words = row-cleared before rest kept k before-length le vote.ballot vote.voter vote.weight ∙ rw (kept-before true q);
        number = d.number ∙ rw (kept-before true q);
      }))
      (λ q. rw q (record {
        words = row_moved before rest kept k before-length le vote.ballot vote.voter vote.weight
            ∙ rw (kept-before false q, ballot_rows-append (without voter (take k xs)) (vote ∷ []));
        number = rw (kept-before false q, length-append) (omega (arith, d.number));
      })))

pub dropped-all : (voter n : ℕ) (xs : List Vote) (ballots : List ℕ) (kept rows : ℕ) → length ballots ≡ n → kept ≤ rows → ballot_row * rows ≤ n
    → length xs ≡ rows → Dropped voter n xs ballots kept rows → HoldsRows ballots kept (without voter xs)
unfolding filled ballot_rows
dropped-all voter n xs ballots kept rows e le room m d =
    let all : take rows xs ≡ xs = take_all rows xs (omega arith) in
    let none : drop rows xs ≡ [] = drop_of_length-le xs {i = rows} (omega arith) in
    let number : kept ≡ length (without voter xs) = rw all at d.number in
    let free : ballot_row * rows - ballot_row * kept + (n - ballot_row * length xs) ≡ n - length (ballot_rows (without voter xs)) =
    omega (arith, length-ballot_rows (without voter xs)) in
    record {
      rows = rw (all, none) at d.words ∙ rw (replicate-append-replicate, free, e);
      number = number;
    }

-- ---- one row more

pub holds-put : (ballots : List ℕ) (n : ℕ) (xs : List Vote) (v : Vote) → HoldsRows ballots n xs → ballot_row * n + ballot_row ≤ length ballots
    → HoldsRows (sets ballots (ballot_row * n) (v.ballot ∷ v.voter ∷ v.weight ∷ [])) (n + 1) (xs ++ (v ∷ []))
unfolding ballot_rows
holds-put ballots n xs v t fits =
    let row = v.ballot ∷ v.voter ∷ v.weight ∷ [] in
    let size : length (ballot_rows xs) ≡ ballot_row * n = length-ballot_rows xs ∙ ap (ballot_row *◌) (sym t.number) in
    let more = filled-append (length ballots) (ballot_rows xs) row (omega arith) in
    record {
      rows = rw (length-sets ballots (ballot_row * n) row, ballot_rows-append xs (v ∷ []), more, size) (ap (λ (b : List ℕ). sets b (ballot_row * n) row) t.rows);
      number = rw (length-append xs (v ∷ [])) (omega (arith, t.number));
    }

-- ---- a row looked at

module _ (l : List ℕ) (kept k voter : ℕ) where
  pub keeps-not : row_word l k 1 ≡ voter → (cleared l k ≡ row_kept l kept k voter) × (kept ≡ number_kept l kept k voter)
  unfolding row_kept number_kept if◌then◌otherwise◌
  keeps-not e = rw (eq-eqb (row_word l k 1) voter e) (refl, refl)

  pub keeps : (row_word l k 1 ≡ voter → ⊥)
      → (sets (cleared l k) (ballot_row * kept) (get_or l (ballot_row * k) 0 ∷ row_word l k 1 ∷ row_word l k 2 ∷ []) ≡ row_kept l kept k voter)
      × (kept + 1 ≡ number_kept l kept k voter)
  unfolding row_kept number_kept if◌then◌otherwise◌
  keeps e = rw (ne_eqb (row_word l k 1) voter e, add-zero) (refl, refl)

  pub number-few : kept ≤ k → number_kept l kept k voter ≤ k + 1
  unfolding number_kept if◌then◌otherwise◌
  number-few le = by-test (eqb (row_word l k 1) voter) (λ q. rw q (omega arith)) (λ q. rw q (omega arith))

-- ---- the rows as the code reads them

chunks-rows : (xs : List Vote) → first_chunks ballot_row (length xs) (ballot_rows xs) ≡ map row_words xs
unfolding ballot_rows
chunks-rows [] = refl
chunks-rows (x ∷ xs) = ap (row_words x ∷◌) (chunks-rows xs)

module _ {ballots : List ℕ} {n : ℕ} {xs : List Vote} (t : HoldsRows ballots n xs) where
  pub rows-are : {rows : List (List ℕ)} → ballot_row * n ≤ length ballots
      → rows ≡ first_chunks ballot_row (length (take (ballot_row * n) ballots) / ballot_row) (take (ballot_row * n) ballots) → rows ≡ map row_words xs
  unfolding filled
  rows-are fits e =
      let size : length (ballot_rows xs) ≡ ballot_row * n = length-ballot_rows xs ∙ ap (ballot_row *◌) (sym t.number) in
      let front : take (ballot_row * n) ballots ≡ ballot_rows xs = ap (take (ballot_row * n)) t.rows ∙ rw (← size) (take-append_seam (ballot_rows xs) _) in
      let number : ballot_row * n / ballot_row ≡ length xs = omega (arith, t.number) in
      e ∙ rw (front, size, number) (chunks-rows xs)

-- the ballot of row k
pub row-ballot : (xs : List Vote) (k : ℕ) (d : List ℕ) → k < length xs → get_or (get_or (map row_words xs) k d) 0 0 ≡ (get_or xs k none).ballot
row-ballot xs k d l = ap (λ (ws : List ℕ). get_or ws 0 0) (get_or-map row_words xs k none d l)

-- the weights of all
pub weights : (xs : List Vote) → sum_by (λ row. get_or row 2 0) (map row_words xs) ≡ total_weight xs
unfolding total_weight
weights [] = refl
weights (x ∷ xs) = sum_by-cons (λ row. get_or row 2 0) (row_words x) (map row_words xs) ∙ ap (x.weight +◌) (weights xs)
