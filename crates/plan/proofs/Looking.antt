-- From what the code sees of a head to what the model says of it. Assumes nothing.
use Prim.Native.Nat.{ℕ, ◌+◌, ◌*◌, ◌^◌, ◌≤◌, ◌<◌}
use native.Mathlib.Omega.{arith}
use mathlib.Core.Path.{◌≡◌, refl, sym, ap, ◌∙◌}
use mathlib.Core.Logic.{◌≢◌}
use mathlib.Core.Option.{Option, none, some}
use mathlib.Core.List.{List}
use lib.Dec.{ltb}
use lib.ListN.{length, get_or}
use borrow.Author.Tests.{lt-ltb, le-ltb}
use Rattle.std.specs.Prelude.{Result, Ok, Err}
use Rattle.model.specs.Lists.{if◌then◌otherwise◌}
use Rattle.model.specs.Refusal.{no_fault, wrong_count, truncated}
use Rattle.model.specs.Words.{count_of}
use Rattle.model.specs.Item.{item_length, hashed_length, behind}
use Rattle.model.specs.Types as types
use Rattle.model.specs.Audit as audit
use Rattle.model.specs.Audit.{word_limit}
use Rattle.model.proofs.Tests.{by-test}
use Rattle.format.specs.Format.{format_of, widths_of}
use Rattle.format.specs.Layout.{head_of}
use Rattle.format.specs.declared.format.Format.{Format}
use Rattle.format.specs.declared.head.Head.{Head}
use Rattle.format.proofs.Traits.{sizes}
use Rattle.refusal.specs.Number.{number_of, found_of}
use Rattle.refusal.specs.declared.Refusal.{Refusal}
use Rattle.refusal.proofs.Laws.{number-some}
use Rattle.planning.specs.Plan.{hash_on, blocks_for}
use Rattle.plan.specs.Planned.{head_fault, count_fault, word_fault, blocks_at}

module _ (board : List ℕ) (p : ℕ) where
  abbrev word : ℕ
  word = get_or board p 0

  -- ---- 5, 6, 4

  abbrev fault_by : Option types.Row → ℕ
  fault_by row = audit.head_fault (format_of board) board row p (λ r. no_fault)

  -- 5 and 6 come first
  by_word : (row : Option types.Row) → count_fault row (count_of word) ≢ no_fault → fault_by row ≡ count_fault row (count_of word)
  unfolding audit.head_fault count_fault if◌then◌otherwise◌
  by_word none n = refl
  by_word (some r) n =
      by-test (types.fits r.counts (count_of word)) (λ q. absurd (n (rw q))) (λ q. rw q)

  -- then 4
  by_end : (row : Option types.Row) → count_fault row (count_of word) ≡ no_fault
      → fault_by row ≡ (if ltb (length board) (behind (format_of board) board p) then truncated otherwise no_fault)
  unfolding audit.head_fault count_fault if◌then◌otherwise◌
  by_end none q = absurd (omega arith)
  by_end (some r) q =
      by-test (types.fits r.counts (count_of word)) (λ t. rw t) (λ t. let e : wrong_count ≡ no_fault = rw t at q in absurd (omega arith))

  -- by what is found of the word
  module _ {X : Type 0} {finding : Result X Refusal} (found : found_of finding ≡ word_fault board word) where
    pub fault-word : (x : Refusal) → finding ≡ Err x → head_fault board p ≡ number_of x
    fault-word x q =
        let e : number_of x ≡ word_fault board word = sym (ap found_of q) ∙ found in
        by_word (types.row_of (format_of board) word) (λ n. absurd (omega (arith, number-some x))) ∙ sym e

    module _ {u : X} (q : finding ≡ Ok u) {end : ℕ} (ends : end ≡ behind (format_of board) board p) where
      passed : word_fault board word ≡ no_fault
      passed = sym found ∙ ap found_of q

      pub fault_past : length board < end → head_fault board p ≡ truncated
      unfolding if◌then◌otherwise◌
      fault_past l = by_end (types.row_of (format_of board) word) passed ∙ rw (← ends, lt-ltb _ _ l)

      pub fault-none : end ≤ length board → head_fault board p ≡ no_fault
      unfolding if◌then◌otherwise◌
      fault-none l = by_end (types.row_of (format_of board) word) passed ∙ rw (← ends, le-ltb _ _ l)

  -- ---- the words of its item

  module _ {head : Head} (is : head ≡ head_of word) {format : Format} (is-format : format ≡ widths_of board) where
    -- few enough for every sum
    pub record Few : Type 0 where
      pub count : head.count < 2 ^ 16
      pub address : format.address ≤ 16
      pub signature : format.signature ≤ 33

    pub few : Few
    unfolding count_of
    few =
        let b = sizes board in
        let n = ap (λ (h : Head). h.count) is in
        let a = ap (λ (f : Format). f.address) is-format in
        let s = ap (λ (f : Format). f.signature) is-format in
        record { count = omega arith; address = omega arith; signature = omega arith }

    -- those that are hashed
    abbrev words : ℕ
    words = 1 + head.count + 2 * format.address + 2

    pub hashed-is : words ≡ hashed_length (format_of board) (count_of word)
    unfolding hashed_length
    hashed-is =
        let n = ap (λ (h : Head). h.count) is in
        let a = ap (λ (f : Format). f.address) is-format in
        omega arith

    pub end_is : p + words + format.signature + format.address ≡ behind (format_of board) board p
    unfolding item_length
    end_is =
        let n = ap (λ (h : Head). h.count) is in
        let a = ap (λ (f : Format). f.address) is-format in
        let s = ap (λ (f : Format). f.signature) is-format in
        omega arith

    pub hashed-few : p + words + format.signature + format.address ≤ length board → length board ≤ word_limit → words ≤ word_limit
    hashed-few l m = omega arith

    pub blocks_at_lem : (blocks : ℕ) → blocks ≡ blocks_for (hash_on format.curve) words → blocks ≡ blocks_at board p
    blocks_at_lem blocks told =
        let curve = ap (λ (f : Format). f.curve) is-format in
        told ∙ rw (curve, hashed-is)
