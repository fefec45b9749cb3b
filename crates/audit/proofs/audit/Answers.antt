-- `audit` meets its contract. Assumes nothing.
use Rattle.audit.proofs.Whole.{audit-large, audit-short-index, audit-short-ballots, audited-unread}
use Rattle.audit.proofs.audit.Goals as goal

pub returns-then-submission-gt-WORDS : goal.returns-then-submission-gt-WORDS
returns-then-submission-gt-WORDS c =
    let x = c.args in
    let a = audited-unread x.submission.now x.index.now x.ballots.now _
    (audit-large x.submission.now x.index.now x.ballots.now c.if-submission-gt-WORDS.true) c.refused.result
    (c.refused.ensures x.submission.now.board.now) in
    record { answer = a.0; index = a.1.0; ballots = a.1.1 }

pub returns-then-index-lt-INDEX : goal.returns-then-index-lt-INDEX
returns-then-index-lt-INDEX c =
    let x = c.args in
    let a = audited-unread x.submission.now x.index.now x.ballots.now _
    (audit-short-index x.submission.now x.index.now x.ballots.now c.if-submission-gt-WORDS.false c.if-index-lt-INDEX.true) c.refused-then-index-lt-INDEX.result (c.refused-then-index-lt-INDEX.ensures x.submission.now.board.now) in
    record { answer = a.0; index = a.1.0; ballots = a.1.1 }

pub returns-then-ballots-lt-BALLOTS : goal.returns-then-ballots-lt-BALLOTS
returns-then-ballots-lt-BALLOTS c =
    let x = c.args in
    let a = audited-unread x.submission.now x.index.now x.ballots.now _
    (audit-short-ballots x.submission.now x.index.now x.ballots.now c.if-submission-gt-WORDS.false c.if-index-lt-INDEX.false c.if-ballots-lt-BALLOTS.true) c.refused-then-ballots-lt-BALLOTS.result (c.refused-then-ballots-lt-BALLOTS.ensures x.submission.now.board.now) in
    record { answer = a.0; index = a.1.0; ballots = a.1.1 }
