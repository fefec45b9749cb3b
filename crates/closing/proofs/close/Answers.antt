-- `close` meets its contract. Assumes nothing.
use native.Mathlib.Omega.{arith}
use mathlib.Core.Path.{sym, ap, ◌∙◌}
use Rattle.model.specs.Report.{report_of}
use Rattle.format.specs.Format.{format_of}
use Rattle.state.proofs.Had.{kept-held, stands-held}
use Rattle.state.proofs.Step.{mains-few}
use Rattle.tally.proofs.Fit.{holds_rows, rows_few, rows_fit}
use Rattle.closing.proofs.Closing.{close-bad, close-good, accepted-report}
use Rattle.closing.proofs.close.Goals as goal

pub returns-then-not-is_closed : goal.returns-then-not-is_closed
returns-then-not-is_closed c =
    let p = c.args.progress.now in
    c.refused.ensures p.board.now ∙ ap (report_of (format_of p.board.now))
    (sym (close-bad p.board.now c.args.verdicts.now p.state (sym c.is_closed.ensures ∙ c.if-not-is_closed.true)))

pub total_weight-requires : goal.total_weight-requires
total_weight-requires c =
    let r = c.args.progress.now.reached in
    (rows_fit (kept-held r) (stands-held r) c.requires.tallied, omega (arith, rows_few (kept-held r) (stands-held r)))

pub overflow_cast-result : goal.overflow_cast-result
overflow_cast-result c = let few = (kept-held c.args.progress.now.reached).few in omega arith

pub overflow_cast-result-2 : goal.overflow_cast-result-2
overflow_cast-result-2 c =
    let p = c.args.progress.now in
    let few = (kept-held p.reached).few in
    omega (arith, mains-few p.board.now p.state (stands-held p.reached))

pub overflow_cast-result-3 : goal.overflow_cast-result-3
overflow_cast-result-3 c =
    let r = c.args.progress.now.reached in
    omega (arith, rows_few (kept-held r) (stands-held r))

pub returns : goal.returns
returns c =
    let p = c.args.progress.now in
    let stands = stands-held p.reached in
    accepted-report stands _ _ (c.total_weight.ensures _ (holds_rows stands c.requires.tallied))
    c.end_address.ensures
    ∙ ap (report_of (format_of p.board.now)) (sym (close-good p.board.now c.args.verdicts.now p.state (sym c.is_closed.ensures ∙ c.if-not-is_closed.false)))
