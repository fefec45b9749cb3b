-- `answer_audited` meets its contract, by what the audit answered. Assumes nothing.
use Rattle.audit.proofs.Laws.{accepted-outcome, accepted-kept, refused-outcome}
use Rattle.entries.proofs.Left.{left-refused}
use Rattle.entries.proofs.Answered.{answers-accepted}
use Rattle.entries.proofs.answering.answer_audited.Goals as goal

pub returns-in_err-accepted-clause-answers : goal.returns-in_err-accepted-clause-answers
returns-in_err-accepted-clause-answers c =
    let s = c.args in
    let r = c.audit in
    left-refused _ _ (refused-outcome s.submission.now s.index.now s.ballots.now r.result
    (r.ensures.answer, (r.ensures.index, r.ensures.ballots)) c.in_err-accepted.was)

pub invariant_of-passed : goal.invariant_of-passed
invariant_of-passed c =
    let s = c.args in
    let r = c.audit in
    record {
      kept = ∣ accepted-kept s.submission.now s.index.now s.ballots.now r.result
          (r.ensures.answer, (r.ensures.index, r.ensures.ballots)) c.in_ok-accepted.was ∣₁;
    }

pub returns-clause-answers : goal.returns-clause-answers
returns-clause-answers c =
    let s = c.args in
    let r = c.audit in
    answers-accepted _ s.receipts.now s.answers.now (accepted-outcome s.submission.now s.index.now s.ballots.now r.result
    (r.ensures.answer, (r.ensures.index, r.ensures.ballots)) c.in_ok-accepted.was) c.answer_accepted.ensures
