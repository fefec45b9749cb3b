-- `hold_audited` meets its contract, by what the audit answered. Assumes nothing.
use Rattle.std.proofs.lemmas.Result.{err_from_is_err_and}
use Rattle.audit.proofs.Laws.{accepted-outcome, accepted-kept, refused-outcome}
use Rattle.entries.proofs.Watched.{held-accepted, held-refused}
use Rattle.entries.proofs.watching.hold_audited.Goals as goal

pub returns-in_err-accepted-clause-agreement : goal.returns-in_err-accepted-clause-agreement
returns-in_err-accepted-clause-agreement c =
    let s = c.args in
    let r = c.audit in
    let p = err_from_is_err_and c.from_residual.result c.from_residual.ensures.1 in
    rw p.1
    (held-refused _ s.notes.now (refused-outcome s.submission.now s.index.now s.ballots.now r.result
    (r.ensures.answer, (r.ensures.index, r.ensures.ballots)) c.in_err-accepted.was))

pub invariant_of-passed : goal.invariant_of-passed
invariant_of-passed c =
    let s = c.args in
    let r = c.audit in
    record {
      kept = ∣ accepted-kept s.submission.now s.index.now s.ballots.now r.result
          (r.ensures.answer, (r.ensures.index, r.ensures.ballots)) c.in_ok-accepted.was ∣₁;
    }

pub returns-clause-agreement : goal.returns-clause-agreement
returns-clause-agreement c =
    let s = c.args in
    let r = c.audit in
    held-accepted _ s.notes.now (accepted-outcome s.submission.now s.index.now s.ballots.now r.result
    (r.ensures.answer, (r.ensures.index, r.ensures.ballots)) c.in_ok-accepted.was) c.hold_accepted-agreement.ensures
