-- `keep_row` meets its contract: the row is cleared, and put again unless it is the voter's. Assumes nothing.
use mathlib.Core.Path.{◌∙◌}
use Rattle.tally.proofs.Table.{keeps, keeps-not}
use Rattle.tally.proofs.rows.keep_row.Goals as goal

pub returns-then-row-voter : goal.returns-then-row-voter
returns-then-row-voter c =
    let a = c.args in
    let q = keeps-not a.ballots.now a.kept a.k a.voter c.if-row-voter.true in record {
      ballots = c.put_row.ensures ∙ q.0;
      number = q.1;
    }

pub returns : goal.returns
returns c =
    let a = c.args in
    let q = keeps a.ballots.now a.kept a.k a.voter c.if-row-voter.false in record {
      ballots = c.put_row-2.ensures ∙ rw c.put_row.ensures q.0;
      number = q.1;
    }
