-- `size::of_line` meets its contract. Assumes nothing.
use native.Mathlib.Omega.{arith}
use Rattle.export.proofs.Parts.{stands}
use Rattle.export.proofs.Sizes.{line-sum}
use Rattle.export.proofs.size.of_line.Goals as goal
use Rattle.export.proofs.size.of_line.Goals.{After-digits-2}

pub overflow_sub-width : goal.overflow_sub-width
overflow_sub-width c = (stands c.requires).end

pub pair_at-requires : goal.pair_at-requires
pair_at-requires c = (stands c.requires).time

pub overflow_add-numbers : goal.overflow_add-numbers
overflow_add-numbers c =
    let sum = line-sum c.requires (λ j. (c.type_inv.board j).fits) c.digits.ensures c.pair_at.ensures c.digits-2.ensures in
    omega (arith, sum.1)

pub overflow_add-result : goal.overflow_add-result
overflow_add-result c =
    let sum = line-sum c.requires (λ j. (c.type_inv.board j).fits) c.digits.ensures c.pair_at.ensures c.digits-2.ensures in
    omega (arith, sum.1)

pub overflow_add-result-2 : goal.overflow_add-result-2
overflow_add-result-2 c =
    let sum = line-sum c.requires (λ j. (c.type_inv.board j).fits) c.digits.ensures c.pair_at.ensures c.digits-2.ensures in
    omega (arith, sum.1)

pub overflow_mul-result-2 : goal.overflow_mul-result-2
overflow_mul-result-2 c =
    let sum = line-sum c.requires (λ j. (c.type_inv.board j).fits) c.digits.ensures c.pair_at.ensures c.digits-2.ensures in
    omega (arith, sum.1)

pub overflow_add-result-3 : goal.overflow_add-result-3
overflow_add-result-3 c =
    let sum = line-sum c.requires (λ j. (c.type_inv.board j).fits) c.digits.ensures c.pair_at.ensures c.digits-2.ensures in
    omega (arith, sum.1)

pub returns : goal.returns
returns c =
    let sum = line-sum c.requires (λ j. (c.type_inv.board j).fits) c.digits.ensures c.pair_at.ensures c.digits-2.ensures in
    record { size = sum.0; few = sum.1 }
