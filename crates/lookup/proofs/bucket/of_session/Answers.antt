-- `of_session` meets its contract: a session has a first content word, its voter. Assumes nothing.
use native.Mathlib.Omega.{arith}
use Rattle.index.proofs.Had.{passing-had}
use Rattle.lookup.proofs.Buckets.{voter-inside, in-voter, in-none}
use Rattle.lookup.proofs.bucket.of_session.Goals as goal

pub returns-then-item-ne-SESSION : goal.returns-then-item-ne-SESSION
returns-then-item-ne-SESSION c = in-none (passing-had c.args.addition.now.passing) c.if-item-ne-SESSION.true

pub offset_bounds-addition-item : goal.offset_bounds-addition-item
offset_bounds-addition-item c = omega (arith, voter-inside (passing-had c.args.addition.now.passing) c.if-item-ne-SESSION.false)

pub bounds-addition-item : goal.bounds-addition-item
bounds-addition-item c = voter-inside (passing-had c.args.addition.now.passing) c.if-item-ne-SESSION.false

pub returns : goal.returns
returns c = in-voter (passing-had c.args.addition.now.passing) c.if-item-ne-SESSION.false c.of_voter.ensures
