-- `contest_ok` meets its contract. Assumes nothing.
use native.Mathlib.Omega.{arith}
use Rattle.format.proofs.Traits.{knows, sizes}
use Rattle.state.proofs.Had.{at-had}
use Rattle.config.proofs.Rules.{contest-other, contest-is}
use Rattle.config.proofs.contest_ok.Goals as goal

pub returns-then-next-ne-CONTEST : goal.returns-then-next-ne-CONTEST
returns-then-next-ne-CONTEST c = contest-other (at-had c.args.next.now.at_item) c.if-next-ne-CONTEST.true

pub overflow_mul-result : goal.overflow_mul-result
overflow_mul-result c =
    let few = sizes c.args.next.now.board.now in
    let f = knows c.of.ensures in
    record { fits = omega arith }

pub returns : goal.returns
returns c =
    let is = rw c.content_of.ensures at c.word-number.ensures in
    rw is (contest-is (at-had c.args.next.now.at_item) c.if-next-ne-CONTEST.false c.of.result c.of.ensures)
