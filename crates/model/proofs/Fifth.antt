-- The fifth word of the rows of an index table that is filled: who closed a ballot. Paper: request (vii). Assumes nothing.
use Prim.Native.Nat.{ℕ, suc, ◌-◌, ◌*◌, ◌≤◌}
use native.Mathlib.Omega.{arith}
use mathlib.Core.Path.{◌≡◌, sym, ap, ◌∙◌}
use mathlib.Core.Logic.{◌≢◌}
use mathlib.Core.List.{List}
use lib.ListN.{length}
use lib.Dec.{T, eqb}
use borrow.Author.Tests.{eqb-true, eqb-false}
use Rattle.model.specs.Lists.{part}
use Rattle.model.specs.Codes.{ballot_type}
use Rattle.model.specs.Format.{Format}
use Rattle.model.specs.Item.{code}
use Rattle.model.specs.History.{History, entry, item_no, main_number, cast_or_spoil, closer}
use Rattle.model.specs.Roll.{Eligibility}
use Rattle.model.specs.Audit.{accepted, audit, item_limit, index_row}
use Rattle.model.specs.Report.{closer_column, row_word, no_number, number_word, row_words, index_row_of, table_after, index_after}
use Rattle.model.specs.Sound.{Passed}
use Rattle.model.proofs.Tests.{by-test, facts}
use Rattle.model.proofs.Numbers.{entry-inside}
use Rattle.model.proofs.Entries.{fine-at, orderly}
use Rattle.model.proofs.Closers.{closer-other, closer-closes, closers-differ, closer-of}
use Rattle.model.proofs.Tables.{number-some, number-none, number-used}
use Rattle.model.proofs.Rows.{index-row, SaysOf, index-says}

-- each row of a table says of its item what the rules give
abbrev Says : List ℕ → History → Type 0
Says table h = (k : ℕ) → 1 ≤ k → k ≤ length h → SaysOf table h k

-- so it is where the audit accepts
pub accepted-says : (f : Format) (ws vs roll index ballots : List ℕ) (h : History) → audit f ws vs roll (length index) (length ballots) ≡ accepted h
    → Says (index_after (audit f ws vs roll (length index) (length ballots)) index) h
unfolding table_after
accepted-says f ws vs roll index ballots h a k one all = rw a (index-says (length index) h k one all)

-- word for word
pub accepted-row : (f : Format) (ws vs roll index ballots : List ℕ) (h : History) → let o = audit f ws vs roll (length index) (length ballots) in
    o ≡ accepted h → (k : ℕ) → 1 ≤ k → k ≤ length h → part (index_row * (k - 1)) index_row (index_after o index) ≡ row_words (entry h k) (main_number h (k - 1)) (closer h k)
unfolding table_after index_row_of
accepted-row f ws vs roll index ballots h a k one all =
    let next : suc (k - 1) ≡ k = omega arith in
    rw a (index-row (length index) h k one all ∙ ap (λ (n : ℕ). row_words (entry h k) (main_number h (k - 1)) (closer h n)) next)

module _ {table : List ℕ} {h : History} (says : Says table h) where
  abbrev fifth : ℕ → ℕ
  fifth k = row_word table k closer_column

  pub fifth-other : (k : ℕ) → 1 ≤ k → k ≤ length h → code (item_no h k) ≢ ballot_type → fifth k ≡ no_number
  fifth-other k one all n = (says k one all).closer ∙ ap number_word (closer-other h k n) ∙ number-none

  -- in use, it is the number of what closed the item
  used : (k : ℕ) → 1 ≤ k → k ≤ length h → fifth k ≢ no_number → (closer h k ≢ 0) × (fifth k ≡ closer h k)
  used k one all n =
      let row = (says k one all).closer in
      let some : closer h k ≢ 0 = number-used (closer h k) (λ q. n (row ∙ q)) in
      (some, row ∙ number-some (closer h k) (omega arith))

  pub fifth-closes : (k : ℕ) → 1 ≤ k → k ≤ length h → fifth k ≢ no_number
      → (code (item_no h k) ≡ ballot_type) × T (cast_or_spoil (code (item_no h (fifth k)))) × ((entry h (fifth k)).parent ≡ k)
  fifth-closes k one all n =
      let (some, same) = used k one all n in
      rw same (closer-closes h k some)

  pub fifth-open : (k : ℕ) → 1 ≤ k → k ≤ length h → ((c : ℕ) → T (cast_or_spoil (code (item_no h c))) → (entry h c).parent ≢ k) → fifth k ≡ no_number
  fifth-open k one all none =
      by-test (eqb (closer h k) 0)
      (λ z. (says k one all).closer ∙ ap number_word (eqb-true (closer h k) 0 z) ∙ number-none)
      (λ z. let (_, kind, up) = closer-closes h k (eqb-false (closer h k) 0 z) in absurd (none (closer h k) kind up))

  pub fifths-differ : (j k : ℕ) → 1 ≤ j → j ≤ length h → 1 ≤ k → k ≤ length h → fifth j ≢ no_number → fifth j ≡ fifth k → j ≡ k
  fifths-differ j k oj aj ok ak n e =
      let (some, same) = used j oj aj n in
      closers-differ h j k some (sym same ∙ e ∙ (used k ok ak (λ q. n (e ∙ q))).1)

  module _ {f : Format} {on : Eligibility} {ws vs : List ℕ} (p : Passed f on ws vs h) (few : length h ≤ item_limit) where
    pub named-once : (c : ℕ) → T (cast_or_spoil (code (item_no h c)))
        → (code (item_no h (entry h c).parent) ≡ ballot_type) × (fifth (entry h c).parent ≡ c)
        × ((k : ℕ) → 1 ≤ k → k ≤ length h → fifth k ≡ c → k ≡ (entry h c).parent)
    named-once c t =
        let range = simp facts at t in
        let (one, all) = entry-inside h c (omega arith) in
        let k = (entry h c).parent in
        let fine = fine-at (orderly p) c one all in
        let named : fifth k ≡ c = (says k fine.parent-some fine.parent_in).closer ∙ ap number_word (closer-of p c one all t) ∙ number-some c one in
        let in_use : fifth k ≢ no_number = λ q. omega arith in (
          (fifth-closes k fine.parent-some fine.parent_in in_use).0,
          named,
          λ j oj aj e. fifths-differ j k oj aj fine.parent-some fine.parent_in (λ q. in_use (named ∙ sym e ∙ q)) (e ∙ sym named),
        )
