-- The answers buffer: before any item, and with one item more. Assumes nothing.
use Prim.Native.Nat.{ℕ, suc, ◌+◌, ◌-◌, ◌≤◌, ◌<◌}
use native.Mathlib.Nat.{le_refl}
use native.Mathlib.Numerals.{add-one}
use native.Mathlib.Decide.{dec_le}
use native.Mathlib.Omega.{arith}
use mathlib.Core.Path.{◌≡◌, sym, ap, ap₂, ◌∙◌}
use mathlib.Core.Logic.{◌≢◌, by_cases}
use mathlib.Core.Bool.{false, ◌&&◌, and-false}
use mathlib.Core.List.{List, [], ◌∷◌, ◌++◌}
use lib.ListN.{length, get_or, drop, replicate, length-replicate, get_or-replicate, get_or-eq_default}
use Rattle.std.proofs.lemmas.List.{drop-replicate}
use lib.Seq.{ext_get_or, take_all}
use lib.Dec.{T, eqb}
use borrow.Author.Tests.{eq-eqb, ne_eqb}
use Rattle.model.specs.Lists.{if◌then◌otherwise◌, count, tabulate}
use Rattle.model.specs.Codes.{cast_type}
use Rattle.model.specs.History.{History, Entry, entry, main, typed, main_number, first_from, place_of, history, entry_of}
use Rattle.model.specs.Audit.{accepted, item_limit}
use Rattle.model.specs.Report.{no_number, filled}
use Rattle.model.specs.Receipts.{Receipt, receipt_count, receipt_at, cast_of, receipt_answer, receipt_answers, answers_after}
use Rattle.model.specs.Above.{buffer_after}
use Rattle.model.proofs.Tests.{passes}
use Rattle.model.proofs.Lists.{count-few, length-tabulate, get_or-tabulate}
use Rattle.model.proofs.Numbers.{entry-snoc, main-number-append, main-next, OnlyMain}
use Rattle.model.proofs.Entries.{orderly, typed-main, typed-only}
use Rattle.model.proofs.Unchecked.{length-history, history-take}
use Rattle.model.proofs.Tables.{number-none, get_or-filled, length-filled}
use Rattle.model.proofs.Receipts.{answer-next}
use Rattle.format.specs.Format.{format_of}
use Rattle.index.specs.declared.Known.{Known}
use Rattle.index.specs.Kept.{before, item_after, Kept}
use Rattle.index.specs.Known.{IsKnown}
use Rattle.index.proofs.Items.{entry-made, entry-fine, entry-met}
use Rattle.index.proofs.Reading.{known-code}
use Rattle.lookup.specs.Search.{entry_from}
use Rattle.lookup.proofs.Views.{from-known}
use Rattle.receipts.specs.Answering.{answers_up_to, with_cast}
use Rattle.receipts.proofs.Casts.{new_answer, new-past, new-inside}

-- ---- before any item

-- a cleared buffer of n words, the first total of which are none then
pub none-first : {n total : ℕ} {first cleared : List ℕ} → total ≤ n → first ≡ replicate total no_number → cleared ≡ replicate n 0
    → first ++ drop total cleared ≡ filled n (replicate total no_number)
unfolding filled
none-first {n} {total} l e f = rw (e, f, drop-replicate {X = ℕ} total n 0, length-replicate {A = ℕ} total no_number)

-- that is what a search gives in no items
no_answer : (r : Receipt) → no_number ≡ receipt_answer r []
unfolding receipt_answer first_from count
no_answer r = sym number-none

pub answers-begin : (board receipts : List ℕ) {m size : ℕ} → size ≡ m → {n : ℕ} → n ≡ receipt_count (format_of board) receipts
    → {ws : List ℕ} → ws ≡ filled m (replicate n no_number) → ws ≡ answers_up_to board receipts 0 size
unfolding receipt_answers history
answers-begin board receipts q {n} c e =
    let answer : ℕ → ℕ = λ k. receipt_answer (receipt_at (format_of board) receipts k) [] in
    let none = replicate n no_number in
    let none-size = length-replicate {A = ℕ} n no_number in
    let same : none ≡ tabulate answer n = ext_get_or 0 none (tabulate answer n) (none-size ∙ sym (length-tabulate answer n))
    (λ k l.
    let u : k < n = omega arith in
    get_or-replicate n k no_number 0 u ∙ no_answer (receipt_at (format_of board) receipts k) ∙ sym (get_or-tabulate answer n k 0 u)) in
    e ∙ ap₂ filled (sym q) (same ∙ ap (tabulate answer) c)

-- ---- the buffer by its words: an answer for each receipt, then zeros

module _ (board receipts : List ℕ) (n size : ℕ) (room : receipt_count (format_of board) receipts ≤ size) where
  abbrev total : ℕ
  total = receipt_count (format_of board) receipts

  abbrev answer : ℕ → ℕ
  answer k = receipt_answer (receipt_at (format_of board) receipts k) (before board n)

  answers-length : length (receipt_answers (format_of board) receipts (before board n)) ≡ total
  unfolding receipt_answers
  answers-length = length-tabulate answer total

  pub answers-size : length (answers_up_to board receipts n size) ≡ size
  answers-size = length-filled size (receipt_answers (format_of board) receipts (before board n)) (omega (arith, answers-length))

  answer_at : (k : ℕ) → k < total → get_or (answers_up_to board receipts n size) k 0 ≡ answer k
  unfolding receipt_answers
  answer_at k l = get_or-filled size (receipt_answers (format_of board) receipts (before board n)) k ∙ get_or-tabulate answer total k 0 l

  answer-past : (k : ℕ) → total ≤ k → get_or (answers_up_to board receipts n size) k 0 ≡ 0
  answer-past k l =
      let answers = receipt_answers (format_of board) receipts (before board n) in
      let all : length answers ≤ k = omega (arith, answers-length) in
      get_or-filled size answers k ∙ get_or-eq_default answers 0 all

  are-answers : {ws : List ℕ} → length ws ≡ size → ((k : ℕ) → k < total → get_or ws k 0 ≡ answer k) → ((k : ℕ) → total ≤ k → k < size → get_or ws k 0 ≡ 0)
      → ws ≡ answers_up_to board receipts n size
  are-answers {ws} e own rest =
      ext_get_or 0 ws (answers_up_to board receipts n size) (e ∙ sym answers-size)
      (λ k l.
      by_cases (dec_le (suc k) total)
      (λ m. own k m ∙ sym (answer_at k m))
      (λ m. rest k (omega arith) (omega arith) ∙ sym (answer-past k (omega arith))))

-- ---- with one item more

module _ {board index : List ℕ} {items done : ℕ} (kept : Kept board index items) (less : done < items) where
  -- the items so far, and the new one
  abbrev h : History
  h = before board done

  abbrev new : Entry
  new = entry_of h (place_of (format_of board) board done) (item_after board done)

  only : OnlyMain (typed cast_type) h
  only = typed-only (orderly (entry-met kept done less).passed) cast_type (omega arith)

  new-main : T (typed cast_type new) → T (main new)
  new-main = rw (entry-made board items done less) at (typed-main (entry-fine kept (suc done) (omega arith) less) cast_type (omega arith))

  few : length h ≤ item_limit
  few = omega (arith, length-history (format_of board) board done, kept.few)

  is-new : {c : Known} → IsKnown board (entry (before board items) (done + 1)) c → IsKnown board new c
  is-new is = rw (add-one, entry-made board items done less) at is

  -- the main items before it
  module _ {mains : ℕ} (told : mains ≡ main_number (before board items) (done + 1 - 1)) where
    so-many : mains ≡ count main h
    so-many =
        let here : done + 1 - 1 ≡ done = omega arith in
        told ∙ rw (here, history-take (format_of board) board items done (omega arith))

    pub mains-few : mains < item_limit
    mains-few = omega (arith, so-many, count-few main h, length-history (format_of board) board done, kept.few)

    its-number : T (main new) → mains + 1 ≡ main_number (h ++ (new ∷ [])) (suc (length h))
    its-number t =
        let longer = h ++ (new ∷ []) in
        let k = suc (length h) in
        let here : k - 1 ≡ length h = omega arith in
        let before-it : main_number longer (k - 1) ≡ count main h =
        rw here (main-number-append h (new ∷ []) (length h) (le_refl (length h)) ∙ ap (count main) (take_all (length h) h (le_refl (length h)))) in
        omega (arith, so-many, before-it, main-next longer k (rw (entry-snoc h new) t))

  -- the answers so far
  module _ (receipts : List ℕ) (size : ℕ) (room : receipt_count (format_of board) receipts ≤ size) {ws : List ℕ} (so_far : ws ≡ answers_up_to board receipts done size) where
    far-size : length ws ≡ size
    far-size = ap length so_far ∙ answers-size board receipts done size room

    far_at : (k : ℕ) → k < receipt_count (format_of board) receipts → get_or ws k 0 ≡ receipt_answer (receipt_at (format_of board) receipts k) h
    far_at k l = ap (λ (l : List ℕ). get_or l k 0) so_far ∙ answer_at board receipts done size room k l

    far-past : (k : ℕ) → receipt_count (format_of board) receipts ≤ k → get_or ws k 0 ≡ 0
    far-past k l = ap (λ (l : List ℕ). get_or l k 0) so_far ∙ answer-past board receipts done size room k l

    module _ {c : Known} (is : IsKnown board (entry (before board items) (done + 1)) c) where
      -- an item that is no cast changes none of them
      pub other-next : c.item.head.code ≢ cast_type → ws ≡ answers_up_to board receipts (done + 1) size
      unfolding history if◌then◌otherwise◌
      other-next n =
          let other : typed cast_type new ≡ false = ne_eqb _ cast_type (λ q. n (known-code (is-new is) ∙ q)) in
          rw add-one
          (are-answers board receipts (suc done) size room far-size
          (λ k l. far_at k l ∙ sym (answer-next (receipt_at (format_of board) receipts k) h new only new-main few ∙ rw (other, and-false)))
          (λ k l u. far-past k l))

      -- a cast gives its main number to its receipts that have none
      pub cast-next : c.item.head.code ≡ cast_type → {mains : ℕ} → mains ≡ main_number (before board items) (done + 1 - 1)
          → {vs : List ℕ} → vs ≡ with_cast board receipts (entry_from board c) (mains + 1) ws → vs ≡ answers_up_to board receipts (done + 1) size
      unfolding history with_cast
      cast-next q {mains} told e =
          let number = mains + 1 in
          let with_it = new_answer board receipts (entry_from board c) number ws in
          let size_is = far-size in
          let same = from-known (is-new is) in
          let is-cast : T (typed cast_type new) = passes (eq-eqb _ cast_type (sym (known-code (is-new is)) ∙ q)) in
          let number_is = its-number told (new-main is-cast) in
          e
          ∙ rw (add-one done)
          (are-answers board receipts (suc done) size room (length-tabulate with_it (length ws) ∙ size_is)
          (λ k l.
          let r = receipt_at (format_of board) receipts k in
          let old = far_at k l in
          get_or-tabulate with_it (length ws) k 0 (omega arith)
          ∙ new-inside board receipts (entry_from board c) number ws k l
          ∙ (λ i. if eqb (old i) no_number && cast_of r (same i) then number_is i otherwise old i)
          ∙ sym (answer-next r h new only new-main few))
          (λ k l u.
          get_or-tabulate with_it (length ws) k 0 (omega arith)
          ∙ new-past board receipts (entry_from board c) number ws k l
          ∙ far-past k l))

-- ---- with all

pub answers-end : (board receipts : List ℕ) {n items : ℕ} → n ≡ items → (s : List ℕ) {size : ℕ} → size ≡ length s → {ws : List ℕ}
    → ws ≡ answers_up_to board receipts n size → ws ≡ answers_after (format_of board) receipts (accepted (before board items)) s
unfolding buffer_after
answers-end board receipts p s q e = e ∙ ap₂ (answers_up_to board receipts) p q
