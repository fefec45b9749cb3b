-- `ancestry` meets its contract: the tests before the audit, and then what it lists. Assumes nothing.
use Rattle.entries.proofs.Listed.{all-unchanged, left_by, large, short, sized, audited}
use Rattle.entries.proofs.listing.ancestry.Goals as goal

pub returns-then-submission-gt-WORDS : goal.returns-then-submission-gt-WORDS
returns-then-submission-gt-WORDS c =
    let s = c.args in
    let left =
    all-unchanged _ s.number s.list.now s.index.now s.ballots.now
    (large s.submission.now.board.now s.submission.now.verdicts.now s.submission.now.roll.now s.index.now s.ballots.now s.list.now c.if-submission-gt-WORDS.true) in
    record { answer = rw c.after.ensures left.0; index = left.1.0; ballots = left.1.1.0; list = left.1.1.1 }

pub returns-then-is_short : goal.returns-then-is_short
returns-then-is_short c =
    let s = c.args in
    let left =
    all-unchanged _ s.number s.list.now s.index.now s.ballots.now
    (short s.submission.now.board.now s.submission.now.verdicts.now s.submission.now.roll.now s.index.now s.ballots.now s.list.now c.if-submission-gt-WORDS.false c.is_short.ensures
    c.if-is_short.true) in
    record { answer = rw c.after-then-is_short.ensures left.0; index = left.1.0; ballots = left.1.1.0; list = left.1.1.1 }

pub list_audited-requires : goal.list_audited-requires
list_audited-requires c =
    let s = c.args in
    sized s.submission.now.board.now s.submission.now.verdicts.now s.submission.now.roll.now s.index.now s.ballots.now s.list.now c.if-submission-gt-WORDS.false c.is_short.ensures
    c.if-is_short.false

pub returns : goal.returns
returns c =
    let s = c.args in
    let fits =
    sized s.submission.now.board.now s.submission.now.verdicts.now s.submission.now.roll.now s.index.now s.ballots.now s.list.now c.if-submission-gt-WORDS.false c.is_short.ensures
    c.if-is_short.false in
    let e = c.list_audited.ensures in
    let left =
    left_by (audited s.submission.now.board.now s.submission.now.verdicts.now s.submission.now.roll.now s.index.now s.ballots.now s.list.now fits.long) s.number s.index.now s.ballots.now
    s.list.now (e.answer, (e.index, (e.ballots, e.list))) in
    record { answer = left.0; index = left.1.0; ballots = left.1.1.0; list = left.1.1.1 }
