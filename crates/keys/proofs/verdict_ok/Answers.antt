-- `verdict_ok` meets its contract. Assumes nothing.
use native.Mathlib.Omega.{arith}
use borrow.Author.Tests.{eq-eqb, ne_eqb}
use Rattle.keys.proofs.Keys.{verdict-missing, verdict-there}
use Rattle.keys.proofs.verdict_ok.Goals as goal

pub returns-then-word-eq-VERDICT : goal.returns-then-word-eq-VERDICT
returns-then-word-eq-VERDICT c =
    let got = c.in-Some.ensures.lookup.0 in
    rw (eq-eqb _ _ c.if-word-eq-VERDICT.true) at (verdict-there c.args.verdicts.now c.args.items c.in-Some.verdict.now got.2 (omega arith))

pub returns-else-word-eq-VERDICT : goal.returns-else-word-eq-VERDICT
returns-else-word-eq-VERDICT c =
    let got = c.in-Some.ensures.lookup.0 in
    rw (ne_eqb _ _ c.if-word-eq-VERDICT.false) (rw (ne_eqb _ _ c.if-word-eq-VERDICT.false) at (verdict-there c.args.verdicts.now c.args.items c.in-Some.verdict.now got.2 (omega arith)))

pub returns-in-None : goal.returns-in-None
returns-in-None c =
    let none = c.in-None.ensures.lookup.0 in
    verdict-missing c.args.verdicts.now c.args.items (omega arith)
