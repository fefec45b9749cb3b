-- `export` meets its contract, by what the audit answered and by whether the text fits. Assumes nothing.
use Rattle.std.proofs.lemmas.Result.{err_from_is_err_and}
use Rattle.audit.proofs.Laws.{accepted-outcome, accepted-kept, refused-outcome}
use Rattle.entries.proofs.Written.{leaves-refused, leaves-short, leaves-fit, short-told}
use Rattle.entries.proofs.writing.export.Goals as goal

pub returns-in_err-accepted : goal.returns-in_err-accepted
returns-in_err-accepted c =
    let s = c.args in
    let r = c.audit in
    let refused = refused-outcome s.submission.now s.index.now s.ballots.now r.result
    (r.ensures.answer, (r.ensures.index, r.ensures.ballots)) c.in_err-accepted.was in
    let (report, bytes, text) = leaves-refused _ s.text.now _ (rw c.in_err-accepted.was at r.ensures.answer) refused in
    let p = err_from_is_err_and c.from_residual.result c.from_residual.ensures.1 in
    record { report = rw (p.1, p.2) report; bytes = rw p.1 bytes; index = r.ensures.index; ballots = r.ensures.ballots; text = text }

pub invariant_of-passed : goal.invariant_of-passed
invariant_of-passed c =
    let s = c.args in
    let r = c.audit in
    record {
      kept = ∣ accepted-kept s.submission.now s.index.now s.ballots.now r.result
          (r.ensures.answer, (r.ensures.index, r.ensures.ballots)) c.in_ok-accepted.was ∣₁;
    }

pub returns-in-Some : goal.returns-in-Some
returns-in-Some c =
    let s = c.args in
    let r = c.audit in
    let accepts = accepted-outcome s.submission.now s.index.now s.ballots.now r.result
    (r.ensures.answer, (r.ensures.index, r.ensures.ballots)) c.in_ok-accepted.was in
    let w = c.export_accepted.ensures in
    let (report, bytes, text) = leaves-fit _ s.text.now _ accepts w.bytes w.text (rw c.in_ok-accepted.was at r.ensures.answer) c.in-Some.is in
    record { report = report; bytes = bytes; index = r.ensures.index; ballots = r.ensures.ballots; text = text }

pub returns-in-None : goal.returns-in-None
returns-in-None c =
    let s = c.args in
    let r = c.audit in
    let accepts = accepted-outcome s.submission.now s.index.now s.ballots.now r.result
    (r.ensures.answer, (r.ensures.index, r.ensures.ballots)) c.in_ok-accepted.was in
    let w = c.export_accepted.ensures in
    let (report, bytes, text) = leaves-short _ s.text.now _ accepts w.bytes w.text (short-told _ c.after.result c.after.ensures) c.in-None.is in
    record { report = report; bytes = bytes; index = r.ensures.index; ballots = r.ensures.ballots; text = text }
