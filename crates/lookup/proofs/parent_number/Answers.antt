-- `parent_number` meets its contract: genesis is its own parent, any other's is the first with the address. Assumes nothing.
use mathlib.Core.Path.{refl}
use native.Mathlib.Omega.{arith}
use Rattle.lookup.proofs.Numbers.{parent-own, parent-slice, sliced-length, parent-sought}
use Rattle.lookup.proofs.parent_number.Goals as goal

pub returns-then-code-eq-GENESIS : goal.returns-then-code-eq-GENESIS
returns-then-code-eq-GENESIS c = parent-own _ _ _ c.requires.0 c.if-code-eq-GENESIS.true

pub offset_bounds-parents-item : goal.offset_bounds-parents-item
offset_bounds-parents-item c =
    let s = parent-slice _ c.args.parents.now.passed.count _ c.requires.0 c.requires.1 in
    omega (arith, s.start, s.within)

pub slice_bounds-address-count : goal.slice_bounds-address-count
slice_bounds-address-count c = (parent-slice _ c.args.parents.now.passed.count _ c.requires.0 c.requires.1).start

pub slice_bounds-address-start : goal.slice_bounds-address-start
slice_bounds-address-start c = (parent-slice _ c.args.parents.now.passed.count _ c.requires.0 c.requires.1).start

pub slice_bounds-address-end : goal.slice_bounds-address-end
slice_bounds-address-end c = (parent-slice _ c.args.parents.now.passed.count _ c.requires.0 c.requires.1).within

pub first_addressed-requires : goal.first_addressed-requires
first_addressed-requires c = sliced-length (parent-slice _ c.args.parents.now.passed.count _ c.requires.0 c.requires.1)

pub returns : goal.returns
returns c = parent-sought _ _ _ c.requires.0 c.if-code-eq-GENESIS.false refl c.first_addressed.ensures
