-- `list_audited` meets its contract, by what the audit answered. Assumes nothing.
use mathlib.Core.Path.{◌∙◌}
use Rattle.std.proofs.lemmas.Result.{err_from_is_err_and}
use Rattle.audit.proofs.Laws.{accepted-outcome, accepted-kept, refused-outcome}
use Rattle.entries.proofs.Listed.{list-refused, list-accepted, refused-late}
use Rattle.entries.proofs.listing.list_audited.Goals as goal

pub returns-in_err-accepted : goal.returns-in_err-accepted
returns-in_err-accepted c =
    let s = c.args in
    let r = c.audit in
    let refused = refused-outcome s.submission.now s.index.now s.ballots.now r.result
    (r.ensures.answer, (r.ensures.index, r.ensures.ballots)) c.in_err-accepted.was in
    let late = refused-late s.submission.now.board.now s.submission.now.verdicts.now s.submission.now.roll.now s.index.now s.ballots.now s.list.now c.requires refused in
    let left = list-refused _ s.number s.list.now late in
    let p = err_from_is_err_and c.from_residual.result c.from_residual.ensures.1 in
    record { answer = rw (p.1, p.2) left.0; index = r.ensures.index; ballots = r.ensures.ballots; list = c.clear.ensures ∙ left.1 }

pub invariant_of-passed : goal.invariant_of-passed
invariant_of-passed c =
    let s = c.args in
    let r = c.audit in
    record {
      kept = ∣ accepted-kept s.submission.now s.index.now s.ballots.now r.result
          (r.ensures.answer, (r.ensures.index, r.ensures.ballots)) c.in_ok-accepted.was ∣₁;
    }

pub returns : goal.returns
returns c =
    let s = c.args in
    let r = c.audit in
    let accepts = accepted-outcome s.submission.now s.index.now s.ballots.now r.result
    (r.ensures.answer, (r.ensures.index, r.ensures.ballots)) c.in_ok-accepted.was in
    let listed = c.list_accepted.ensures in
    let left = list-accepted _ s.number s.list.now c.clear.new.s accepts c.clear.auto.s listed.answer listed.list in
    record { answer = left.0; index = r.ensures.index; ballots = r.ensures.ballots; list = left.1 }
