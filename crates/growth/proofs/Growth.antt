-- Under any more items the index rows that stood stay, save a fifth word that is not in use. Paper: requests (vii), (xiii). Assumes nothing.
use Prim.Native.Nat.{ℕ, zero, suc, ◌-◌, ◌≤◌, ◌<◌}
use native.Mathlib.Nat.{not-suc-le-zero}
use native.Mathlib.Omega.{arith}
use native.Mathlib.Decide.{dec_le}
use mathlib.Core.Path.{◌≡◌, refl, sym, ap, ◌∙◌}
use mathlib.Core.Logic.{◌≢◌, by_cases}
use mathlib.Core.List.{◌++◌}
use lib.ListN.{length, get_or, length-append, get_or-append}
use Rattle.model.specs.History.{History, Entry, absent, main_number, closer}
use Rattle.model.specs.Audit.{index_row}
use Rattle.model.specs.Report.{closer_column, row_word, no_number, number_word, row_words, index_row_of, index_rows}
use Rattle.model.proofs.Numbers.{main-number-append}
use Rattle.model.proofs.Closers.{closer-stays}
use Rattle.model.proofs.Tables.{get_or-index_rows, number-used}

-- the first four words do not depend on what closed the item
four-words : (e : Entry) (mains c d k : ℕ) → k < closer_column → get_or (row_words e mains c) k 0 ≡ get_or (row_words e mains d) k 0
four-words e mains c d zero l = refl
four-words e mains c d (suc zero) l = refl
four-words e mains c d (suc (suc zero)) l = refl
four-words e mains c d (suc (suc (suc zero))) l = refl
four-words e mains c d (suc (suc (suc (suc k)))) l = absurd (omega arith)

pub rows_grow : (h t : History) (k c : ℕ) → 1 ≤ k → k ≤ length h → c < index_row → (c ≡ closer_column → row_word (index_rows h 0 h) k c ≢ no_number)
    → row_word (index_rows (h ++ t) 0 (h ++ t)) k c ≡ row_word (index_rows h 0 h) k c
unfolding index_row_of
rows_grow h t zero c one all l n = absurd (not-suc-le-zero one)
rows_grow h t (suc k) c one all l n =
    let before : suc k - 1 ≡ k = omega arith in
    let e = get_or h k absent in
    let stood = get_or-index_rows h k c all l in
    let now = get_or-index_rows (h ++ t) k c (simp length-append (omega arith)) l in
    let same : get_or (index_row_of (h ++ t) k (get_or (h ++ t) k absent)) c 0 ≡ get_or (row_words e (main_number h k) (closer (h ++ t) (suc k))) c 0 =
    ap (λ (x : Entry). get_or (index_row_of (h ++ t) k x) c 0) (get_or-append h t absent k all)
    ∙ ap (λ (m : ℕ). get_or (row_words e m (closer (h ++ t) (suc k))) c 0) (main-number-append h t k (omega arith)) in
    rw before (now ∙ same ∙ by_cases (dec_le (suc c) closer_column)
    (λ four. four-words e (main_number h k) (closer (h ++ t) (suc k)) (closer h (suc k)) c four)
    (λ five. let last : c ≡ closer_column = omega arith in
    let word : row_word (index_rows h 0 h) (suc k) c ≡ number_word (closer h (suc k)) = rw (before, last) (rw last at stood) in
    let used = number-used (closer h (suc k)) (λ q. n last (word ∙ q)) in
    ap (λ (d : ℕ). get_or (row_words e (main_number h k) d) c 0) (closer-stays h t (suc k) all used)) ∙ sym stood)
