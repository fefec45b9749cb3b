-- `link` meets its contract. The loop's invariant: the table is that of the first k items. Assumes nothing.
use native.Mathlib.Omega.{arith}
use Rattle.index.proofs.Had.{kept-had}
use Rattle.notes.proofs.Buckets.{chain-begins, chain_next, address-inside}
use Rattle.notes.proofs.link.Goals as goal

pub loop-k-init : goal.loop-k-init
loop-k-init c = chain-begins _ c.requires

pub offset_bounds-passed-at : goal.offset_bounds-passed-at
offset_bounds-passed-at c = omega (arith, address-inside c.entry-at.ensures, (kept-had c.args.passed.now.kept).words)

pub bounds-passed-at : goal.bounds-passed-at
bounds-passed-at c = address-inside c.entry-at.ensures

pub loop-k-preserved : goal.loop-k-preserved
loop-k-preserved c =
    chain_next _ c.loop-k.k c.loop-k-test.true c.entry-at.ensures c.of_address.ensures c.loop-k.invariant c.put.ensures
