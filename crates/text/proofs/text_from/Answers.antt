-- `text::text_from` meets its contract. Assumes nothing.
use native.Mathlib.Omega.{arith}
use Rattle.text.proofs.Placed.{put-start}
use Rattle.text.proofs.Lines.{length-accepted}
use Rattle.text.proofs.Answer.{put-refusal, put-acceptance}
use borrow.Author.Rules.{rules}
use Rattle.text.proofs.text_from.Goals as goal

pub returns-then-number-ne0 : goal.returns-then-number-ne0
returns-then-number-ne0 c =
    let x = c.args in
    let w = put-refusal x.number x.items x.mains x.ballots x.weight x.table.now c.if-number-ne0.true c.refused_line.ensures in
    let shown = put-start w.put in
    search (rules, shown)

pub row_lines-requires : goal.row_lines-requires
row_lines-requires c =
    let long = length-accepted c.args.items c.args.mains c.args.ballots c.args.weight (omega arith) (omega arith) (omega arith) (omega arith) in
    record {
      room = omega arith;
      rows = omega arith;
    }

pub returns : goal.returns
returns c =
    let x = c.args in
    let w = put-acceptance x.number x.items x.mains x.ballots x.weight x.table.now
    c.if-number-ne0.false c.accepted_line.ensures c.row_lines.ensures in
    let shown = put-start w.put in
    search (rules, shown)
