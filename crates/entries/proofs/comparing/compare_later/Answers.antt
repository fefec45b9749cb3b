-- `compare_later` meets its contract, by what the later board's audit answered. Assumes nothing.
use Rattle.audit.proofs.Laws.{accepted-outcome, refused-outcome}
use Rattle.entries.proofs.Compared.{accepted-board, later-refused, later-accepted}
use Rattle.entries.proofs.comparing.compare_later.Goals as goal

pub invariant_of-board-in-Ok : goal.invariant_of-board-in-Ok
invariant_of-board-in-Ok c =
    let s = c.args in
    let r = c.audit in
    let b = accepted-board s.later.now s.later_index.now s.later_ballots.now r.result
    (r.ensures.answer, (r.ensures.index, r.ensures.ballots)) c.in-Ok.is in
    record { counted = b.mains_are; opened = b.opened }

pub invariant_of-board : goal.invariant_of-board
invariant_of-board c =
    let s = c.args in
    let r = c.audit in
    let b = accepted-board s.later.now s.later_index.now s.later_ballots.now r.result
    (r.ensures.answer, (r.ensures.index, r.ensures.ballots)) c.in-Ok.is in
    record { kept = ∣ b.kept ∣₁ }

pub returns-in-Ok-clause-answer : goal.returns-in-Ok-clause-answer
returns-in-Ok-clause-answer c =
    let s = c.args in
    let r = c.audit in
    later-accepted _ _ (accepted-outcome s.later.now s.later_index.now s.later_ballots.now r.result
    (r.ensures.answer, (r.ensures.index, r.ensures.ballots)) c.in-Ok.is) c.compare_accepted.ensures

pub returns-in-Err-clause-answer : goal.returns-in-Err-clause-answer
returns-in-Err-clause-answer c =
    let s = c.args in
    let r = c.audit in
    later-refused _ _ (refused-outcome s.later.now s.later_index.now s.later_ballots.now r.result
    (r.ensures.answer, (r.ensures.index, r.ensures.ballots)) c.in-Err.is)
