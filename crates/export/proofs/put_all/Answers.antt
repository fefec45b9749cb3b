-- `put_all` meets its contract. The invariant: the text of the first items is put. Assumes nothing.
use native.Mathlib.Omega.{arith}
use mathlib.Core.Path.{◌≡◌, refl}
use borrow.Author.Rules.{rules}
use Rattle.export.proofs.Writing.{put-begins, put-room, put_item, put-items}
use Rattle.export.proofs.put_all.Goals as goal

pub loop-done-init : goal.loop-done-init
loop-done-init c = put-begins _ _ refl

pub put_next-requires-clause-room : goal.put_next-requires-clause-room
put_next-requires-clause-room c = put-room _ _ refl c.loop-done.invariant c.loop-done-test.true c.requires

pub loop-done-preserved : goal.loop-done-preserved
loop-done-preserved c = put_item _ _ refl c.loop-done.invariant c.loop-done-test.true c.put_next.ensures

pub returns : goal.returns
returns c =
    let all : c.loop-done.done ≡ c.args.passed.now.count = omega arith in
    let text = put-items _ _ refl c.loop-done.invariant all in
    let written = c.loop-done.invariant in
    search (rules, text)
