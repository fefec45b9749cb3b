-- `rules_finding` meets its contract. Assumes nothing.
use Rattle.judge.proofs.First.{told, rules-phase, rules-only, rules-content, rules-roll, rules-met}
use Rattle.judge.proofs.checks.rules_finding.Goals as goal

pub returns-then-not-phase_ok : goal.returns-then-not-phase_ok
returns-then-not-phase_ok c v =
    rules-phase _ _ _ v _ _
    (told c.phase_ok.ensures c.if-not-phase_ok.true)

pub returns-then-not-only_ok : goal.returns-then-not-only_ok
returns-then-not-only_ok c v =
    rules-only _ _ _ v _ _
    (told c.phase_ok.ensures c.if-not-phase_ok.false)
    (told c.only_ok.ensures c.if-not-only_ok.true)

pub returns-then-not-content_ok : goal.returns-then-not-content_ok
returns-then-not-content_ok c v =
    rules-content _ _ _ v _ _
    (told c.phase_ok.ensures c.if-not-phase_ok.false)
    (told c.only_ok.ensures c.if-not-only_ok.false)
    (told c.content_ok.ensures c.if-not-content_ok.true)

pub returns-then-not-on_roll_ok : goal.returns-then-not-on_roll_ok
returns-then-not-on_roll_ok c v =
    rules-roll _ _ _ v _ _
    (told c.phase_ok.ensures c.if-not-phase_ok.false)
    (told c.only_ok.ensures c.if-not-only_ok.false)
    (told c.content_ok.ensures c.if-not-content_ok.false)
    (told c.on_roll_ok.ensures c.if-not-on_roll_ok.true)

pub returns : goal.returns
returns c v =
    rules-met _ _ _ v _ _
    (told c.phase_ok.ensures c.if-not-phase_ok.false)
    (told c.only_ok.ensures c.if-not-only_ok.false)
    (told c.content_ok.ensures c.if-not-content_ok.false)
    (told c.on_roll_ok.ensures c.if-not-on_roll_ok.false)
