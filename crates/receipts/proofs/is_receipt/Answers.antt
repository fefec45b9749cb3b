-- `is_receipt` meets its contract: the words that it compares are both signatures, then both addresses. Assumes nothing.
use native.Mathlib.Omega.{arith}
use Rattle.receipts.proofs.Places.{placed, both-width, both-ends, both-inside, matches-both}
use Rattle.receipts.proofs.is_receipt.Goals as goal

pub overflow_sub-size : goal.overflow_sub-size
overflow_sub-size c = omega (arith, both-ends c.requires.known)

pub part-requires : goal.part-requires
part-requires c = rw (both-width c.requires.known) (both-inside c.requires.known)

pub overflow_mul-size : goal.overflow_mul-size
overflow_mul-size c = omega (arith, (placed c.args.asked.now.whole (both-width c.requires.known) c.requires.k_bound).place)

pub part-requires-2 : goal.part-requires-2
part-requires-2 c = (placed c.args.asked.now.whole (both-width c.requires.known) c.requires.k_bound).end

pub returns : goal.returns
returns c =
    let is = c.requires.known in
    let told = rw (c.part.ensures.value, c.part-2.ensures.value) at c.same_words.ensures in
    matches-both is c.args.asked.now.whole c.args.k c.requires.k_bound (both-width is) told
