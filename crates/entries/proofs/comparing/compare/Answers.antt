-- `compare` meets its contract, by what the kept board's audit answered. Assumes nothing.
use Rattle.audit.proofs.Laws.{accepted-outcome, refused-outcome}
use Rattle.entries.proofs.Left.{left-refused, left-accepted}
use Rattle.entries.proofs.Compared.{accepted-board, kept-refused, kept-accepted}
use Rattle.entries.proofs.comparing.compare.Goals as goal

pub invariant_of-board-in-Ok : goal.invariant_of-board-in-Ok
invariant_of-board-in-Ok c =
    let s = c.args in
    let r = c.audit in
    let b = accepted-board s.kept.now s.kept_index.now s.kept_ballots.now r.result
    (r.ensures.answer, (r.ensures.index, r.ensures.ballots)) c.in-Ok.is in
    record { counted = b.mains_are; opened = b.opened }

pub invariant_of-board : goal.invariant_of-board
invariant_of-board c =
    let s = c.args in
    let r = c.audit in
    let b = accepted-board s.kept.now s.kept_index.now s.kept_ballots.now r.result
    (r.ensures.answer, (r.ensures.index, r.ensures.ballots)) c.in-Ok.is in
    record { kept = ∣ b.kept ∣₁ }

pub returns-in-Err : goal.returns-in-Err
returns-in-Err c =
    let s = c.args in
    let r = c.audit in
    let refused = refused-outcome s.kept.now s.kept_index.now s.kept_ballots.now r.result
    (r.ensures.answer, (r.ensures.index, r.ensures.ballots)) c.in-Err.is in record {
      answer = kept-refused _ _ refused;
      kept_index = r.ensures.index;
      kept_ballots = r.ensures.ballots;
      later_index = left-refused _ _ refused;
      later_ballots = left-refused _ _ refused;
    }

pub returns-in-Ok : goal.returns-in-Ok
returns-in-Ok c =
    let s = c.args in
    let r = c.audit in
    let accepts = accepted-outcome s.kept.now s.kept_index.now s.kept_ballots.now r.result
    (r.ensures.answer, (r.ensures.index, r.ensures.ballots)) c.in-Ok.is in
    let later = c.compare_later.ensures in record {
      answer = kept-accepted accepts _ _ later.answer;
      kept_index = r.ensures.index;
      kept_ballots = r.ensures.ballots;
      later_index = left-accepted _ _ accepts later.index;
      later_ballots = left-accepted _ _ accepts later.ballots;
    }
