-- `receipts` meets its contract: its own checks, and then what it answers. Assumes nothing.
use Rattle.entries.proofs.Answered.{leaves_all, leaves-same, bad, short, late, answerable}
use Rattle.entries.proofs.answering.receipts.Goals as goal

pub returns-then-is_bad : goal.returns-then-is_bad
returns-then-is_bad c =
    let s = c.args in
    let left =
    leaves_all s.submission.now.board.now s.receipts.now s.index.now s.ballots.now s.answers.now _
    (bad s.submission.now.board.now s.submission.now.verdicts.now s.submission.now.roll.now s.receipts.now s.index.now s.ballots.now s.answers.now c.is_bad.ensures c.if-is_bad.true)
    c.refused.result (c.refused.ensures s.submission.now.board.now) in
    record { answer = left.0; index = left.1.0; ballots = left.1.1.0; answers = left.1.1.1 }

pub returns-then-answers-count : goal.returns-then-answers-count
returns-then-answers-count c =
    let s = c.args in
    let left =
    leaves_all s.submission.now.board.now s.receipts.now s.index.now s.ballots.now s.answers.now _
    (short s.submission.now.board.now s.submission.now.verdicts.now s.submission.now.roll.now s.receipts.now s.index.now s.ballots.now s.answers.now c.is_bad.ensures c.if-is_bad.false
    c.count.ensures c.if-answers-count.true)
    c.refused-then-answers-count.result (c.refused-then-answers-count.ensures s.submission.now.board.now) in
    record { answer = left.0; index = left.1.0; ballots = left.1.1.0; answers = left.1.1.1 }

pub answer_audited-requires : goal.answer_audited-requires
answer_audited-requires c =
    let s = c.args in
    answerable s.submission.now.board.now s.submission.now.verdicts.now s.submission.now.roll.now s.receipts.now s.index.now s.ballots.now s.answers.now c.is_bad.ensures
    c.if-is_bad.false c.count.ensures c.if-answers-count.false

pub returns : goal.returns
returns c =
    let s = c.args in
    let e = c.answer_audited.ensures in
    let left =
    leaves-same s.submission.now.board.now s.receipts.now s.index.now s.ballots.now s.answers.now
    (late s.submission.now.board.now s.submission.now.verdicts.now s.submission.now.roll.now s.receipts.now s.index.now s.ballots.now s.answers.now c.is_bad.ensures c.if-is_bad.false
    c.count.ensures c.if-answers-count.false)
    c.answer_audited.result (e.answer, (e.index, (e.ballots, e.answers))) in
    record { answer = left.0; index = left.1.0; ballots = left.1.1.0; answers = left.1.1.1 }
