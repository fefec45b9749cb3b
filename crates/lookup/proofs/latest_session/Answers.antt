-- `latest_session` meets its contract. The loop's invariant: item k is the last of its bucket up to itself, and the last such item is the
-- last up to item k. Assumes nothing.
use native.Mathlib.Omega.{arith}
use Prim.Native.Nat.{◌≤◌}
use mathlib.Core.Path.{sym, ◌∙◌}
use Rattle.model.specs.Phase.{session_of}
use Rattle.index.proofs.Had.{kept-had}
use Rattle.lookup.proofs.Steps.{last-ends}
use Rattle.lookup.proofs.Buckets.{voter-small, by_voter-small, chain-words}
use Rattle.lookup.proofs.Walk.{walk-starts, walk-goes, last-starts, last-stops, last_goes, session-only}
use Rattle.lookup.proofs.latest_session.Goals as goal

pub last-k-requires : goal.last-k-requires
last-k-requires c = (chain-words _ _ c.args.sessions.now.chained, omega (arith, c.of_voter.ensures))

pub loop-k-init : goal.loop-k-init
loop-k-init c =
    let s = c.args.sessions.now in
    let few = (kept-had s.passed.kept).few in
    let v = c.args.voter in
    let at = walk-starts (by_voter-small _) few s.chained (voter-small v) c.of_voter.ensures c.last-k.ensures in
    (at.most, at.self, last-starts _ _ (session_of v) _ _ (session-only _ _ v) at)

pub returns-then-is_session_of : goal.returns-then-is_session_of
returns-then-is_session_of c =
    let v = c.args.voter in
    let i = c.loop-k.invariant in
    sym (i.2 ∙ last-stops _ _ (session_of v) c.loop-k.k (omega arith) i.0 c.is_session_of.ensures c.if-is_session_of.true)

pub behind-k-requires : goal.behind-k-requires
behind-k-requires c =
    let s = c.args.sessions.now in
    let few = (kept-had s.passed.kept).few in
    (chain-words _ _ s.chained, omega (arith, c.loop-k.invariant.0, few))

-- the item behind it
pub loop-k-smaller : goal.loop-k-smaller
loop-k-smaller c =
    let s = c.args.sessions.now in
    let few = (kept-had s.passed.kept).few in
    let i = c.loop-k.invariant in
    let one : 1 ≤ c.loop-k.k = omega arith in
    let at = walk-goes (by_voter-small _) few s.chained c.loop-k.k one i.0 i.1 c.behind-k.ensures in
    omega (arith, at.most)

pub loop-k-preserved : goal.loop-k-preserved
loop-k-preserved c =
    let s = c.args.sessions.now in
    let few = (kept-had s.passed.kept).few in
    let v = c.args.voter in
    let i = c.loop-k.invariant in
    let one : 1 ≤ c.loop-k.k = omega arith in
    let at = walk-goes (by_voter-small _) few s.chained c.loop-k.k one i.0 i.1 c.behind-k.ensures in
    (omega (arith, at.most, i.0), at.self, i.2 ∙ last_goes _ _ (session_of v) _ _ (session-only _ _ v) c.loop-k.k one i.0 at c.is_session_of.ensures c.if-is_session_of.false)

pub returns : goal.returns
returns c = sym (c.loop-k.invariant.2 ∙ last-ends _ _ _ c.loop-k.k c.loop-k-test.false)
