-- The tables as the code fills them: one row more at a time behind the rows that stand, and what is read back from a row. Assumes nothing.
use Prim.Native.Nat.{ℕ, zero, suc, ◌+◌, ◌-◌, ◌*◌, ◌≤◌, ◌<◌}
use native.Mathlib.Nat.{not-suc-le-zero, add-zero, zero-add, mul-suc, sub-zero, zero-sub, suc-sub-suc, le_of_suc-le-suc}
use native.Mathlib.Omega.{arith}
use mathlib.Core.Path.{◌≡◌, refl, sym, ap, ◌∙◌}
use mathlib.Core.Logic.{◌≢◌}
use mathlib.Core.List.{List, [], ◌∷◌, ◌++◌, append_assoc}
use lib.ListN.{length, get_or, set, drop, replicate, length-append, length-set, length-replicate, get_or-append}
use lib.Seq.{sets, sets-eq, set-append_left, get_or-append-add, drop-append-add, take-append_seam}
use borrow.Author.Tests.{ne_eqb}
use Rattle.model.specs.Lists.{if◌then◌otherwise◌}
use Rattle.model.specs.History.{History, Entry, absent}
use Rattle.model.specs.Counted.{Vote}
use Rattle.model.specs.Audit.{index_row, ballot_row}
use Rattle.model.specs.Report.{no_number, number_word, index_row_of, index_rows, ballot_rows, filled}

-- place c of row k + 1 is place c of row k behind the first row
row-later : (w : ℕ) (row rest : List ℕ) (k c : ℕ) → length row ≡ w → get_or (row ++ rest) (w * suc k + c) 0 ≡ get_or rest (w * k + c) 0
row-later w row rest k c n =
    let on : w * suc k + c ≡ length row + (w * k + c) = rw (n, mul-suc) (omega arith) in
    rw on (get_or-append-add row rest (w * k + c) 0)

-- ---- the index table

pub length-index_rows : (h : History) (k : ℕ) (es : List Entry) → length (index_rows h k es) ≡ index_row * length es
unfolding index_rows index_row_of
length-index_rows h k [] = refl
length-index_rows h k (e ∷ es) = omega (arith, length-index_rows h (suc k) es)

column : (h : History) (m : ℕ) (es : List Entry) (k c : ℕ) → k < length es → c < index_row
    → get_or (index_rows h m es) (index_row * k + c) 0 ≡ get_or (index_row_of h (m + k) (get_or es k absent)) c 0
unfolding index_rows index_row_of
column h m [] k c l i = absurd (not-suc-le-zero l)
column h m (e ∷ es) zero c l i =
    rw zero-add (get_or-append (index_row_of h m e) (index_rows h (suc m) es) 0 c i)
    ∙ ap (λ (n : ℕ). get_or (index_row_of h n e) c 0) (sym (add-zero m))
column h m (e ∷ es) (suc k) c l i =
    let next : suc m + k ≡ m + suc k = omega arith in
    row-later index_row (index_row_of h m e) (index_rows h (suc m) es) k c refl
    ∙ column h (suc m) es k c (le_of_suc-le-suc l) i
    ∙ ap (λ (n : ℕ). get_or (index_row_of h n (get_or es k absent)) c 0) next

-- column c of the row of item k + 1
pub get_or-index_rows : (h : History) (k c : ℕ) → k < length h → c < index_row
    → get_or (index_rows h 0 h) (index_row * k + c) 0 ≡ get_or (index_row_of h k (get_or h k absent)) c 0
get_or-index_rows h k c l i =
    column h 0 h k c l i ∙ ap (λ (n : ℕ). get_or (index_row_of h n (get_or h k absent)) c 0) (zero-add k)

-- the word of an item number
pub number-some : (n : ℕ) → 1 ≤ n → number_word n ≡ n
unfolding number_word if◌then◌otherwise◌
number-some n l = rw (ne_eqb n 0 (λ z. omega arith))

pub number-none : number_word 0 ≡ no_number
unfolding number_word if◌then◌otherwise◌
number-none = refl

pub number-used : (n : ℕ) → number_word n ≢ no_number → n ≢ 0
number-used n u z = u (ap number_word z ∙ number-none)

-- ---- the ballot table

pub length-ballot_rows : (vs : List Vote) → length (ballot_rows vs) ≡ ballot_row * length vs
unfolding ballot_rows
length-ballot_rows [] = refl
length-ballot_rows (v ∷ vs) = omega (arith, length-ballot_rows vs)

pub ballot_rows-append : (us vs : List Vote) → ballot_rows (us ++ vs) ≡ ballot_rows us ++ ballot_rows vs
unfolding ballot_rows
ballot_rows-append [] vs = refl
ballot_rows-append (u ∷ us) vs = rw (ballot_rows-append us vs)

pub get_or-ballot_rows : (d : Vote) (vs : List Vote) (k c : ℕ) → k < length vs → c < ballot_row
    → get_or (ballot_rows vs) (ballot_row * k + c) 0 ≡ get_or (ballot_rows (get_or vs k d ∷ [])) c 0
unfolding ballot_rows
get_or-ballot_rows d [] k c l i = absurd (not-suc-le-zero l)
get_or-ballot_rows d (v ∷ vs) zero c l i = rw zero-add (get_or-append (ballot_rows (v ∷ [])) (ballot_rows vs) 0 c i)
get_or-ballot_rows d (v ∷ vs) (suc k) c l i =
    row-later ballot_row (ballot_rows (v ∷ [])) (ballot_rows vs) k c refl ∙ get_or-ballot_rows d vs k c (le_of_suc-le-suc l) i

-- ---- a table of n words

abbrev zeros : ℕ → List ℕ
zeros n = replicate n 0

get_or-zeros : (n i : ℕ) → get_or (zeros n) i 0 ≡ 0
get_or-zeros zero i = refl
get_or-zeros (suc n) zero = refl
get_or-zeros (suc n) (suc i) = get_or-zeros n i

drop-zeros : (k n : ℕ) → drop k (zeros n) ≡ zeros (n - k)
drop-zeros zero n = rw sub-zero
drop-zeros (suc k) zero = rw zero-sub
drop-zeros (suc k) (suc n) = rw suc-sub-suc (drop-zeros k n)

pub get_or-filled : (n : ℕ) (rows : List ℕ) (i : ℕ) → get_or (filled n rows) i 0 ≡ get_or rows i 0
unfolding filled
get_or-filled n rows i = go rows i
  where
    go : (xs : List ℕ) (i : ℕ) → get_or (xs ++ zeros (n - length rows)) i 0 ≡ get_or xs i 0
    go [] i = get_or-zeros (n - length rows) i
    go (x ∷ xs) zero = refl
    go (x ∷ xs) (suc i) = go xs i

pub length-filled : (n : ℕ) (rows : List ℕ) → length rows ≤ n → length (filled n rows) ≡ n
unfolding filled
length-filled n rows l = simp (length-append, length-replicate) (omega arith)

-- one row more
pub filled-append : (n : ℕ) (rows row : List ℕ) → length rows + length row ≤ n → filled n (rows ++ row) ≡ sets (filled n rows) (length rows) row
unfolding filled
filled-append n rows row l =
    let free = zeros (n - length rows) in
    let fits : length rows + length row ≤ length (rows ++ free) = simp (length-append, length-replicate) (omega arith) in
    let left : n - length (rows ++ row) ≡ n - length rows - length row = simp length-append (omega arith) in
    rw (
      sets-eq row (rows ++ free) (length rows) fits,
      take-append_seam rows free,
      drop-append-add rows free (length row),
      drop-zeros (length row) (n - length rows),
      left,
      append_assoc,
    )

-- another word in a row
pub filled-set : (n : ℕ) (rows : List ℕ) (i v : ℕ) → i < length rows → filled n (set rows i v) ≡ set (filled n rows) i v
unfolding filled
filled-set n rows i v l = simp length-set (sym (set-append_left rows (zeros (n - length rows)) i v l))
