-- `item_finding` meets its contract. Assumes nothing.
use Rattle.std.proofs.lemmas.Result.{err_from_is_err_and}
use Rattle.refusal.proofs.Laws.{number-some}
use Rattle.judge.proofs.First.{first-links, first-rules, first-verdict}
use Rattle.judge.proofs.checks.item_finding.Goals as goal

pub returns-in_err-links_finding : goal.returns-in_err-links_finding
returns-in_err-links_finding c =
    let p = err_from_is_err_and c.from_residual.result c.from_residual.ensures.1 in
    rw (p.1, p.2) (first-links _ _ _ _ _ _ _ (number-some _) (c.in_err-links_finding.ensures _ _))

pub returns-in_err-rules_finding : goal.returns-in_err-rules_finding
returns-in_err-rules_finding c =
    let p = err_from_is_err_and c.from_residual-in_err-rules_finding.result c.from_residual-in_err-rules_finding.ensures.1 in
    rw (p.1, p.2) (first-rules _ _ _ _ _ _ _ (number-some _) (c.in_ok-links_finding.ensures _ _) (c.in_err-rules_finding.ensures _))

pub returns : goal.returns
returns c =
    first-verdict _ _ _ _ _ _ _ (c.in_ok-links_finding.ensures _ _) (c.in_ok-rules_finding.ensures _) (c.verdict_finding.ensures _)
