-- `first_addressed` meets its contract. The loop's invariant: the present item is the last of its bucket up to itself, and the first such
-- item is the first up to it, or else the one found. Assumes nothing.
use native.Mathlib.Omega.{arith}
use Prim.Native.Nat.{◌≤◌}
use mathlib.Core.Path.{sym, ◌∙◌}
use mathlib.Core.Path.{◌≡◌}
use Rattle.model.specs.Lists.{if◌then◌otherwise◌}
use Rattle.model.specs.History.{entry}
use Rattle.format.proofs.Traits.{sizes}
use Rattle.index.specs.Passed.{history_of}
use Rattle.index.proofs.Had.{kept-had}
use Rattle.lookup.specs.Search.{addressed}
use Rattle.lookup.proofs.Buckets.{address-small, by_address-small, chain-words}
use Rattle.lookup.proofs.Walk.{walk-starts, walk-goes, found-new, found-old, first-starts, first_goes, first_done, addressed-only}
use Rattle.lookup.proofs.first_addressed.Goals as goal
use Rattle.lookup.proofs.first_addressed.Goals.{then-is_addressed, else-is_addressed}

pub bounds-address-0 : goal.bounds-address-0
bounds-address-0 c = let b = sizes c.args.parents.now.passed.board.now in omega arith

pub last-number-requires : goal.last-number-requires
last-number-requires c = (chain-words _ _ c.args.parents.now.chained, omega (arith, c.of_address.ensures))

pub loop-number-init : goal.loop-number-init
loop-number-init c =
    let p = c.args.parents.now in
    let few = (kept-had p.passed.kept).few in
    let at = walk-starts (by_address-small _) few p.chained (address-small _) c.of_address.ensures c.last-number.ensures in
    (at.most, at.self, first-starts _ _ _ _ _ (addressed-only _ c.args.address.now _ c.args.main) at)

pub behind-number-requires : goal.behind-number-requires
behind-number-requires c =
    let p = c.args.parents.now in
    let few = (kept-had p.passed.kept).few in
    (chain-words _ _ p.chained, omega (arith, c.loop-number.invariant.0, few))

-- the item behind it
pub loop-number-smaller : goal.loop-number-smaller
loop-number-smaller c =
    let p = c.args.parents.now in
    let few = (kept-had p.passed.kept).few in
    let i = c.loop-number.invariant in
    let one : 1 ≤ c.loop-number.number = omega arith in
    let at = walk-goes (by_address-small _) few p.chained c.loop-number.number one i.0 i.1 c.behind-number.ensures in
    omega (arith, at.most)

pub loop-number-preserved : goal.loop-number-preserved
loop-number-preserved c =
    let a = c.args in
    let p = a.parents.now in
    let few = (kept-had p.passed.kept).few in
    let test = addressed a.main a.address.now in
    let k = c.loop-number.number in
    let i = c.loop-number.invariant in
    let one : 1 ≤ k = omega arith in
    let at = walk-goes (by_address-small _) few p.chained k one i.0 i.1 c.behind-number.ensures in
    let told = c.is_addressed.ensures in
    let found : c.if-is_addressed.found ≡ (if test (entry (history_of p.passed) k) then k otherwise c.loop-number.found) =
    elim c.if-is_addressed.branch [
      | then-is_addressed w ↦ found-new _ _ test k one i.0 told c.loop-number.found w.if-is_addressed.true w.found-is
      | else-is_addressed w ↦ found-old _ _ test k one i.0 told c.loop-number.found w.if-is_addressed.false w.found-is
    ] in
    (omega (arith, at.most, i.0), at.self, i.2 ∙ first_goes _ _ test _ _ (addressed-only _ a.address.now _ a.main) k one i.0 at c.loop-number.found found)

pub returns : goal.returns
returns c = sym (c.loop-number.invariant.2 ∙ first_done _ _ _ c.loop-number.number c.loop-number.found c.loop-number-test.false)
