-- Head words: from the row that the code finds to 5 and 6, and the words that are known to pass them. Assumes nothing.
use Prim.Native.Nat.{ℕ, ◌+◌, ◌*◌, ◌/◌, ◌%◌, ◌^◌, ◌<◌}
use native.Mathlib.Omega.{arith}
use mathlib.Core.Path.{◌≡◌, refl, sym, ap, subst, ◌∙◌}
use mathlib.Core.Logic.{◌≢◌}
use mathlib.Core.Bool.{Bool, true, false, not}
use mathlib.Core.List.{List}
use lib.Dec.{eqb}
use lib.ListN.{get_or, set, replicate, length-set, length-replicate, get_or-replicate}
use lib.Seq.{get_or-set_same, get_or-set_other, set-get_or}
use borrow.Author.Tests.{eqb-true, eqb-false, eq-eqb, ne_eqb, not-true, not-false}
use Rattle.model.specs.Lists.{if◌then◌otherwise◌}
use Rattle.model.specs.Refusal.{no_fault, unknown_type, wrong_count}
use Rattle.model.specs.Words.{kind_of, code_of, count_of, main_kind}
use Rattle.model.specs.Codes.{cast_type}
use Rattle.model.specs.Types as types
use Rattle.model.proofs.Tests.{by-test}
use Rattle.format.specs.Format.{format_of}
use Rattle.format.specs.Layout.{head_of}
use Rattle.format.specs.Table.{row_of, counts_of}
use Rattle.format.specs.declared.head.Head.{Head}
use Rattle.format.specs.declared.table.Row.{Row}
use Rattle.std.specs.Prelude.{Result, Ok, Err, Option, Some, None}
use Rattle.refusal.specs.Number.{number_of, found_of}
use Rattle.refusal.specs.declared.Refusal.{Refusal}
use Rattle.refusal.proofs.Laws.{number-some}
use Rattle.plan.specs.Planned.{count_fault, word_fault, Known, known_after}

module _ (board : List ℕ) (w : ℕ) where
  -- the row that the code found is the model's
  abbrev pub IsRow : Option Row → Type 0
  IsRow listing = types.row_of (format_of board) w ≡ row_of (kind_of w) (code_of w) listing

  pub listed-row : {head : Head} (listing : Option Row) {found : Option Row} → head ≡ head_of w → found ≡ listing
      → row_of head.kind head.code found ≡ types.row_in head.kind head.code (types.table (format_of board))
      → IsRow listing
  unfolding types.row_of
  listed-row listing is same found = sym (rw (is, same) at found)

  pub word-unlisted : IsRow None → unknown_type ≡ word_fault board w
  unfolding count_fault
  word-unlisted q = rw q

  -- the count that the code tested is that of the head
  module _ (row : Row) (is_row : IsRow (Some row)) {head : Head} (is : head ≡ head_of w) {b : Bool}
      (e : b ≡ types.fits (counts_of row.counts) head.count) where
    same_count : b ≡ types.fits (counts_of row.counts) (count_of w)
    same_count = e ∙ ap (λ (h : Head). types.fits (counts_of row.counts) h.count) is

    pub word-misfit : not b ≡ true → wrong_count ≡ word_fault board w
    unfolding count_fault if◌then◌otherwise◌
    word-misfit n = rw (is_row, ← same_count, not-true b n)

    pub word_fits : not b ≡ false → no_fault ≡ word_fault board w
    unfolding count_fault if◌then◌otherwise◌
    word_fits n = rw (is_row, ← same_count, not-false b n)

-- ---- the words that are known

-- the head of a cast, which is in the table of every board
abbrev pub cast_head : ℕ
cast_head = main_kind * 2 ^ 28 + cast_type * 2 ^ 16

cast-passes : (board : List ℕ) → word_fault board cast_head ≡ no_fault
unfolding count_fault if◌then◌otherwise◌ types.row_of types.row_in types.table types.fits kind_of code_of count_of
cast-passes board = refl

pub known_start : (board : List ℕ) → Known board (replicate 64 cast_head)
known_start board = record {
  sized = length-replicate 64 cast_head;
  pass = λ k l. ap (word_fault board) (get_or-replicate 64 k cast_head 0 l) ∙ cast-passes board;
}

module _ (board : List ℕ) (w : ℕ) (known : List ℕ) where
  abbrev slot : ℕ
  slot = w / 2 ^ 16 % 64

  after-pass : word_fault board w ≡ no_fault → set known slot w ≡ known_after board w known
  unfolding known_after if◌then◌otherwise◌
  after-pass q = rw (eq-eqb (word_fault board w) no_fault q)

  after-fail : word_fault board w ≢ no_fault → known ≡ known_after board w known
  unfolding known_after if◌then◌otherwise◌
  after-fail n = rw (ne_eqb (word_fault board w) no_fault n)

  -- what a word that is found there tells
  module _ (k : Known board known) (hit : get_or known slot 0 ≡ w) where
    pub hit-passes : no_fault ≡ word_fault board w
    hit-passes = sym (k.pass slot (omega arith)) ∙ ap (word_fault board) hit

    pub hit_same : known ≡ known_after board w known
    hit_same = sym (set-get_or known slot 0) ∙ ap (set known slot) hit ∙ after-pass (sym hit-passes)

  -- and what the table tells of another
  module _ {X : Type 0} {finding : Result X Refusal} (found : found_of finding ≡ word_fault board w) where
    pub kept : {u : X} → finding ≡ Ok u → set known slot w ≡ known_after board w known
    kept q = after-pass (sym found ∙ ap found_of q)

    pub left : (x : Refusal) → finding ≡ Err x → known ≡ known_after board w known
    left x q = after-fail (λ n. let e : number_of x ≡ no_fault = sym (ap found_of q) ∙ found ∙ n in absurd (omega (arith, number-some x)))

  -- all words pass, again
  module _ (k : Known board known) where
    pass-set : word_fault board w ≡ no_fault → (j : ℕ) → j < 64 → word_fault board (get_or (set known slot w) j 0) ≡ no_fault
    pass-set q j l =
        by-test (eqb j slot)
        (λ e. let same = eqb-true j slot e in ap (word_fault board) (rw same (get_or-set_same known slot w 0 (omega (arith, k.sized)))) ∙ q)
        (λ e. ap (word_fault board) (get_or-set_other known slot j w 0 (eqb-false j slot e)) ∙ k.pass j l)

    pass-after : Known board (known_after board w known)
    unfolding known_after if◌then◌otherwise◌
    pass-after =
        by-test (eqb (word_fault board w) no_fault)
        (λ q. rw q (record { sized = length-set known slot w ∙ k.sized; pass = pass-set (eqb-true (word_fault board w) no_fault q) }))
        (λ q. rw q k)

    pub known-after : {after : List ℕ} → after ≡ known_after board w known → Known board after
    known-after e = subst (Known board) (sym e) pass-after
