-- `notes` meets its contract: its own check, and then what it answers. Assumes nothing.
use Rattle.entries.proofs.Watched.{leaves_all, bad-told, leaves-same, bad, late, whole}
use Rattle.entries.proofs.watching.notes.Goals as goal

pub returns-then-is_bad : goal.returns-then-is_bad
returns-then-is_bad c =
    let s = c.args in
    let b = s.submission.now in
    let left =
    leaves_all b.board.now s.notes.now s.index.now s.ballots.now _
    (bad b.board.now b.verdicts.now b.roll.now s.notes.now s.index.now s.ballots.now c.is_bad.ensures c.if-is_bad.true)
    c.after.result (bad-told b.board.now s.notes.now s.index.now s.ballots.now c.after.result c.after.ensures) in
    record { report = left.0; agreement = left.1.0; index = left.1.1.0; ballots = left.1.1.1 }

pub hold_audited-requires : goal.hold_audited-requires
hold_audited-requires c =
    let s = c.args in
    let b = s.submission.now in
    whole b.board.now b.verdicts.now b.roll.now s.notes.now s.index.now s.ballots.now c.is_bad.ensures c.if-is_bad.false

pub returns : goal.returns
returns c =
    let s = c.args in
    let b = s.submission.now in
    let e = c.hold_audited.ensures in
    let left =
    leaves-same b.board.now s.notes.now s.index.now s.ballots.now
    (late b.board.now b.verdicts.now b.roll.now s.notes.now s.index.now s.ballots.now c.is_bad.ensures c.if-is_bad.false)
    c.hold_audited.result (e.report, (e.agreement, (e.index, e.ballots))) in
    record { report = left.0; agreement = left.1.0; index = left.1.1.0; ballots = left.1.1.1 }
