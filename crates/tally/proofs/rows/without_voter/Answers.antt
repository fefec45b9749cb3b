-- `without_voter` meets its contract. The loop's invariant: of the votes that the table held, the first k were looked at. Assumes nothing.
use mathlib.Core.Path.{◌≡◌, refl, ◌∙◌}
use lib.ListN.{length}
use Rattle.tally.proofs.Table.{dropped-none, dropped-more, dropped-all, number-few}
use native.Mathlib.Omega.{arith}
use borrow.Author.Rules.{rules}
use Rattle.tally.proofs.rows.without_voter.Goals as goal

pub loop-k-init : goal.loop-k-init
loop-k-init c = (search rules, refl, λ xs t. dropped-none _ _ xs _ _ refl t)

pub loop-k-preserved : goal.loop-k-preserved
loop-k-preserved c =
    let l = c.loop-k in
    let a = c.args in
    let called = c.keep_row-kept in
    let few = number-few l.ballots l.kept l.k a.voter l.invariant.0 in (
      rw called.ensures.number few,
      called.auto.ballots ∙ l.invariant.1,
      λ xs t. rw (called.ensures.ballots, called.ensures.number)
          (dropped-more a.voter (length a.ballots.now) xs l.ballots l.kept l.k l.invariant.0 (omega (arith, t.number)) (l.invariant.2 xs t)),
    )

pub returns : goal.returns
returns c xs t =
    let l = c.loop-k in
    let a = c.args in
    let end : l.k ≡ a.rows = omega arith in
    let dropped = rw end at (l.invariant.2 xs t) in
    let room = c.requires in
    dropped-all a.voter (length a.ballots.now) xs l.ballots l.kept a.rows l.invariant.1 (omega arith) room (omega (arith, t.number)) dropped
