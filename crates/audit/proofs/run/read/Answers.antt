-- `read` meets its contract. Assumes nothing.
use mathlib.Core.Path.{sym, ◌∙◌}
use Rattle.audit.proofs.Whole.{good-roll, chain-none, cleared-zeros, audited-roll, audited-empty, audited-cleared, audited-filled}
use Rattle.audit.proofs.run.read.Goals as goal

pub returns-in_default : goal.returns-in_default
returns-in_default c =
    let x = c.args in
    let a = audited-roll x.submission.now x.index.now x.ballots.now c.requires c.in_default.ensures c.refused.result
    (c.refused.ensures x.submission.now.board.now) c.clear.ensures c.clear-2.ensures in
    record { answer = a.0; index = a.1.0; ballots = a.1.1 }

pub returns-then-is_empty : goal.returns-then-is_empty
returns-then-is_empty c =
    let x = c.args in
    let good = good-roll c.in-Some.roll.words.now c.in-Some.roll.good c.in-Some.ensures in
    let a = audited-empty x.submission.now x.index.now x.ballots.now c.requires good (sym c.is_empty.ensures ∙ c.if-is_empty.true)
    c.refused-then-is_empty.result (c.refused-then-is_empty.ensures x.submission.now.board.now) c.clear.ensures c.clear-2.ensures in
    record { answer = a.0; index = a.1.0; ballots = a.1.1 }

pub run-requires : goal.run-requires
run-requires c =
    let x = c.args in record {
      sized = cleared-zeros x.submission.now x.index.now x.ballots.now c.requires _ _ c.clear.ensures c.clear-2.ensures;
      parents_value = (chain-none _, chain-none _);
    }

pub returns-in-Ok : goal.returns-in-Ok
returns-in-Ok c =
    let x = c.args in
    let good = good-roll c.in-Some.roll.words.now c.in-Some.roll.good c.in-Some.ensures in
    let e = rw c.in-Some.ensures at c.run.ensures in
    let a = audited-filled x.submission.now x.index.now x.ballots.now c.requires good (sym c.is_empty.ensures ∙ c.if-is_empty.false) _ _
    e.tables c.run.result e.answer c.in-Ok.is (c.run.auto.index ∙ c.clear.auto.s) (c.run.auto.ballots ∙ c.clear-2.auto.s) in
    record { answer = rw c.in-Ok.is at a.0; index = a.1.0; ballots = a.1.1 }

pub returns-in-Err : goal.returns-in-Err
returns-in-Err c =
    let x = c.args in
    let good = good-roll c.in-Some.roll.words.now c.in-Some.roll.good c.in-Some.ensures in
    let e = rw c.in-Some.ensures at c.run.ensures in
    let a = audited-cleared x.submission.now x.index.now x.ballots.now c.requires good (sym c.is_empty.ensures ∙ c.if-is_empty.false) _ _
    e.tables c.run.result e.answer c.in-Err.is _ _ c.clear-in-Err.ensures c.clear-in-Err-2.ensures
    (c.run.auto.index ∙ c.clear.auto.s) (c.run.auto.ballots ∙ c.clear-2.auto.s) in
    record { answer = rw c.in-Err.is at a.0; index = a.1.0; ballots = a.1.1 }
