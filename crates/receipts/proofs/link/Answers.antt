-- `link` meets its contract. The loop's invariant: the table is that of the first k receipts. Assumes nothing.
use native.Mathlib.Omega.{arith}
use Rattle.format.proofs.Traits.{knows}
use Rattle.receipts.proofs.Places.{word-inside}
use Rattle.receipts.proofs.Buckets.{chain-begins, chain_next}
use Rattle.receipts.proofs.link.Goals as goal

pub loop-k-init : goal.loop-k-init
loop-k-init c = chain-begins c.args.asked.now.passed.board.now c.args.asked.now.receipts.now c.requires

pub bounds-asked-at : goal.bounds-asked-at
bounds-asked-at c =
    let w = knows c.of-signature.ensures in
    word-inside c.args.asked.now.whole c.size-size.ensures w.signature (omega (arith, c.count-k-end.ensures))

pub loop-k-preserved : goal.loop-k-preserved
loop-k-preserved c =
    let w = knows c.of-signature.ensures in
    chain_next _ _ c.loop-k.k c.size-size.ensures w.signature c.of_address.ensures c.loop-k.invariant c.put.ensures
