-- Receipts: how a search for one goes on as the history grows. Paper: request (ii). Assumes nothing.
use Prim.Native.Nat.{ℕ, suc, ◌≤◌, ◌<◌}
use native.Mathlib.Omega.{arith}
use mathlib.Core.Path.{◌≡◌, sym, ap, ◌∙◌}
use mathlib.Core.Bool.{Bool, true, false, ◌&&◌}
use mathlib.Core.List.{[], ◌∷◌, ◌++◌}
use lib.ListN.{length, take, length-take}
use lib.Dec.{T, eqb}
use borrow.Author.Tests.{eq-eqb, ne_eqb, eqb-true, eqb-false}
use Rattle.model.specs.Lists.{if◌then◌otherwise◌, count}
use Rattle.model.specs.Codes.{cast_type}
use Rattle.model.specs.History.{History, Entry, entry, main, typed, main_number, first}
use Rattle.model.specs.Audit.{item_limit}
use Rattle.model.specs.Report.{no_number, number_word}
use Rattle.model.specs.Receipts.{Receipt, matches, cast_of, receipt_answer}
use Rattle.model.proofs.Tests.{by-test, passes, and-iff}
use Rattle.model.proofs.Lists.{every_map, count-few}
use Rattle.model.proofs.Numbers.{entry-snoc, main-number-append, main-next, OnlyMain, first-bound, first-at}
use Rattle.model.proofs.State.{first-snoc}
use Rattle.model.proofs.Tables.{number-some, number-none}

-- ---- one item more

-- a search by a test that only main items pass
module _ (p : Entry → Bool) where
  abbrev answer : History → ℕ
  answer h = number_word (main_number h (first p h))

  nothing : (h : History) → first p h ≡ 0 → answer h ≡ no_number
  unfolding count
  nothing h z = rw z number-none

  -- the main number of what is found is a number, and not the word for none
  something : (h : History) → OnlyMain p h → length h ≤ item_limit → 1 ≤ first p h → (answer h ≡ main_number h (first p h)) × (answer h < no_number)
  something h only few l =
      let n = main_number h (first p h) in
      let some : 1 ≤ n = omega (arith, main-next h (first p h) (first-at p h only l)) in
      let same = number-some n some in
      (same, omega (arith, same, count-few main (take (first p h) h), length-take (first p h) h))

  module _ (h : History) (e : Entry) where
    abbrev longer : History
    longer = h ++ (e ∷ [])

    -- what was found stays
    stays : 1 ≤ first p h → answer longer ≡ answer h
    unfolding if◌then◌otherwise◌
    stays l =
        let found : first p longer ≡ first p h = first-snoc p h e ∙ rw (ne_eqb (first p h) 0 (λ z. omega arith)) in
        ap number_word (ap (main_number longer) found ∙ main-number-append h (e ∷ []) (first p h) (first-bound p h))

    -- else the new item may be it
    none-new : first p h ≡ 0 → p e ≡ false → answer longer ≡ answer h
    unfolding if◌then◌otherwise◌
    none-new z q = nothing longer (first-snoc p h e ∙ rw (eq-eqb (first p h) 0 z, q)) ∙ sym (nothing h z)

    new : first p h ≡ 0 → (T (p e) → T (main e)) → p e ≡ true → answer longer ≡ main_number longer (suc (length h))
    unfolding if◌then◌otherwise◌
    new z own q =
        let k = suc (length h) in
        let found : first p longer ≡ k = first-snoc p h e ∙ rw (eq-eqb (first p h) 0 z, q) in
        let is : T (main (entry longer k)) = rw (entry-snoc h e) (own (passes q)) in
        ap (λ (n : ℕ). number_word (main_number longer n)) found ∙ number-some (main_number longer k) (omega (arith, main-next longer k is))

    search-next : OnlyMain p h → (T (p e) → T (main e)) → length h ≤ item_limit
        → answer longer ≡ (if eqb (answer h) no_number && p e then main_number longer (suc (length h)) otherwise answer h)
    unfolding if◌then◌otherwise◌
    search-next only own few =
        by-test (eqb (first p h) 0)
        (λ z.
        let none = eqb-true (first p h) 0 z in
        let unset = eq-eqb (answer h) no_number (nothing h none) in
        by-test (p e) (λ q. rw (unset, q) (new none own q)) (λ q. rw (unset, q) (none-new none q)))
        (λ z.
        let found : 1 ≤ first p h = omega (arith, eqb-false (first p h) 0 z) in
        let told = something h only few found in
        let set = ne_eqb (answer h) no_number (λ s. omega (arith, told.1)) in
        rw set (stays found))

-- the answer to a receipt, where casts are main items: one that was found stays, and else the new item may be its cast
pub answer-next : (r : Receipt) (h : History) (e : Entry) → OnlyMain (typed cast_type) h → (T (typed cast_type e) → T (main e)) → length h ≤ item_limit
    → let longer = h ++ (e ∷ []) in
    receipt_answer r longer ≡ (if eqb (receipt_answer r h) no_number && cast_of r e then main_number longer (suc (length h)) otherwise receipt_answer r h)
unfolding receipt_answer
answer-next r h e only own few =
    let cast : (x : Entry) → T (cast_of r x) → T (typed cast_type x) = λ x t. ((and-iff (typed cast_type x) (matches r x.item)).0 t).0 in
    search-next (cast_of r) h e (every_map _ _ (λ x main-if t. main-if (cast x t)) h only) (λ t. own (cast e t)) few
