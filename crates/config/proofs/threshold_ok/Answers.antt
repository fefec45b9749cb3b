-- `threshold_ok` meets its contract. Assumes nothing.
use borrow.Author.Tests.{le-leb, lt-leb}
use borrow.Author.Rules.{rules}
use Rattle.state.proofs.Had.{at-had}
use Rattle.config.proofs.Rules.{threshold-other, threshold-is}
use Rattle.config.proofs.threshold_ok.Goals as goal
use Rattle.config.proofs.threshold_ok.Goals.{then-threshold-ge1, else-threshold-ge1}

pub returns-then-next-ne-THRESHOLD : goal.returns-then-next-ne-THRESHOLD
returns-then-next-ne-THRESHOLD c = threshold-other (at-had c.args.next.now.at_item) c.if-next-ne-THRESHOLD.true

pub returns-then-threshold-trustees : goal.returns-then-threshold-trustees
returns-then-threshold-trustees c =
    let m = rw c.content_of-content.ensures at c.word-trustees.ensures in
    let t = rw c.content_of-content.ensures at c.word-threshold.ensures in
    let (some, few) = c.if-threshold-trustees.true in
    rw (le-leb _ _ some, le-leb _ _ few) at (threshold-is (at-had c.args.next.now.at_item) c.if-next-ne-THRESHOLD.false _ _ m t)

pub returns-else-threshold-trustees : goal.returns-else-threshold-trustees
returns-else-threshold-trustees c =
    let m = rw c.content_of-content.ensures at c.word-trustees.ensures in
    let t = rw c.content_of-content.ensures at c.word-threshold.ensures in
    let rule = threshold-is (at-had c.args.next.now.at_item) c.if-next-ne-THRESHOLD.false _ _ m t in
    elim c.if-threshold-ge1.branch [
      | then-threshold-ge1 w ↦ let less = rw (le-leb _ _ w.if-threshold-ge1.true) at rule in search rules
      | else-threshold-ge1 w ↦ let none = rw (lt-leb _ _ w.if-threshold-ge1.false) at rule in search rules
    ]
