-- `ballot_ok` meets its contract. Assumes nothing.
use native.Mathlib.Omega.{arith}
use mathlib.Core.Path.{◌≡◌, refl, sym, ap, ◌∙◌}
use mathlib.Core.List.{List}
use Prim.Native.Nat.{ℕ, ◌*◌, ◌≤◌}
use borrow.Author.Tests.{eq-eqb, apart_eqb, both_ways}
use Rattle.model.specs.Lists.{part}
use Rattle.model.specs.Words.{size}
use Rattle.format.specs.Format.{format_of, widths_of}
use Rattle.format.specs.declared.format.Format.{Format}
use Rattle.format.proofs.Traits.{knows, sizes}
use Rattle.sets.proofs.Sets.{set-size-few}
use Rattle.state.proofs.Had.{at-had}
use Rattle.voting.proofs.Rules.{words-few, ballot-at, ballot-other, ballot-words, sets-few, ballot-is}
use Rattle.voting.proofs.ballot_ok.Goals as goal
use Rattle.voting.proofs.ballot_ok.Goals.{then-content-sets, else-content-sets}

-- so many contests
few-contests : (content : List ℕ) (sets : ℕ) (n : ℕ) → n ≡ size (part 0 sets content) → n ≤ 32 * sets
few-contests content sets n e = rw e (set-size-few content 0 sets)

-- the size of a cryptogram
size_is : (board : List ℕ) {f : Format} → f ≡ widths_of board
    → (f.cryptogram ≡ (format_of board).cryptogram) × (1 ≤ f.cryptogram) × (f.cryptogram ≤ 34)
size_is board e =
    let is = (knows e).cryptogram in
    let b = sizes board in
    (is, omega arith, omega arith)

-- so many words
few : (n sets each : ℕ) → n ≤ 32 * sets → sets ≤ 8 → each ≤ 34 → n * each ≤ 8704
few n sets each l m k = words-few n each (omega arith) k

pub returns-then-next-ne-BALLOT : goal.returns-then-next-ne-BALLOT
returns-then-next-ne-BALLOT c = ballot-other (at-had c.args.next.now.at_item) c.if-next-ne-BALLOT.true

pub part-contests-requires : goal.part-contests-requires
part-contests-requires c =
    let b = ballot-at c.args.next.now.at_item c.if-next-ne-BALLOT.false (knows c.of-format.ensures).sets in
    omega (arith, sets-few b, ballot-words b _ c.content_of-content.ensures)

pub count-cryptograms-requires : goal.count-cryptograms-requires
count-cryptograms-requires c =
    omega (arith, c.part-contests.ensures.len, sets-few (ballot-at c.args.next.now.at_item c.if-next-ne-BALLOT.false (knows c.of-format.ensures).sets))

pub overflow_mul-cryptograms : goal.overflow_mul-cryptograms
overflow_mul-cryptograms c =
    let b = sets-few (ballot-at c.args.next.now.at_item c.if-next-ne-BALLOT.false (knows c.of-format.ensures).sets) in
    let f = c.of-format.result in
    let is = c.count-cryptograms.ensures ∙ ap size c.part-contests.ensures.value in
    record { fits = omega (arith, few c.count-cryptograms.result f.sets f.cryptogram (few-contests _ _ _ is) b (size_is _ c.of-format.ensures).2) }

pub overflow_add-sets : goal.overflow_add-sets
overflow_add-sets c =
    let b = sets-few (ballot-at c.args.next.now.at_item c.if-next-ne-BALLOT.false (knows c.of-format.ensures).sets) in
    let f = c.of-format.result in
    let is = c.count-cryptograms.ensures ∙ ap size c.part-contests.ensures.value in
    record { fits = omega (arith, b, few c.count-cryptograms.result f.sets f.cryptogram (few-contests _ _ _ is) b (size_is _ c.of-format.ensures).2) }

pub cryptograms_ok-requires : goal.cryptograms_ok-requires
cryptograms_ok-requires c =
    let b = sets-few (ballot-at c.args.next.now.at_item c.if-next-ne-BALLOT.false (knows c.of-format.ensures).sets) in
    let is = c.count-cryptograms.ensures ∙ ap size c.part-contests.ensures.value in
    let k = size_is _ c.of-format.ensures in
    (b, k.1, k.2, few-contests _ _ _ is)

pub returns-then-may_vote : goal.returns-then-may_vote
returns-then-may_vote c =
    let content = c.content_of-content in
    let b = ballot-at c.args.next.now.at_item c.if-next-ne-BALLOT.false (knows c.of-format.ensures).sets in
    let contests = c.part-contests.ensures.value in
    let each = (size_is _ c.of-format.ensures).0 in
    let n = c.count-cryptograms.ensures in
    elim c.if-content-sets.branch [
      | then-content-sets w ↦
          let may = sym w.value-is ∙ c.if-may_vote.true in
          c.cryptograms_ok.ensures
          ∙ rw (eq-eqb _ _ w.if-content-sets.true, may) at (ballot-is b _ _ content.ensures contests _ each _ _ n w.may_vote.ensures)
      | else-content-sets w ↦ absurd (both_ways _ (apart_eqb _ _ w.if-content-sets.false) (sym w.value-is ∙ c.if-may_vote.true))
    ]

pub returns-else-may_vote : goal.returns-else-may_vote
returns-else-may_vote c =
    let content = c.content_of-content in
    let b = ballot-at c.args.next.now.at_item c.if-next-ne-BALLOT.false (knows c.of-format.ensures).sets in
    let contests = c.part-contests.ensures.value in
    let each = (size_is _ c.of-format.ensures).0 in
    let n = c.count-cryptograms.ensures in
    elim c.if-content-sets.branch [
      | then-content-sets w ↦
          let not = sym w.value-is ∙ c.if-may_vote.false in
          c.if-may_vote.false
          ∙ rw (eq-eqb _ _ w.if-content-sets.true, not) at (ballot-is b _ _ content.ensures contests _ each _ _ n w.may_vote.ensures)
      | else-content-sets w ↦
          c.if-may_vote.false ∙ rw (apart_eqb _ _ w.if-content-sets.false) at (ballot-is b _ _ content.ensures contests _ each _ _ n refl)
    ]
