-- `judge` meets its contract. Assumes nothing.
use Rattle.std.proofs.Common.{None}
use Rattle.std.proofs.lemmas.Result.{err_from_is_err_and}
use Rattle.state.proofs.Had.{kept-held, stands-held}
use Rattle.judge.proofs.Judging.{listed-row, fault-unlisted, fitting, unfitting, fault_past, judged-at, judged-fault, judged-passing}
use Rattle.judge.proofs.judge.Goals as goal

pub returns-in_default : goal.returns-in_default
returns-in_default c =
    let p = c.args.progress.now in
    fault-unlisted p.board.now c.args.verdicts.now c.args.roll.now.words.now p.state
    (listed-row p.board.now p.state None c.of-head.ensures c.in_default.is c.row_of.ensures)

pub returns-then-not-fits : goal.returns-then-not-fits
returns-then-not-fits c =
    let p = c.args.progress.now in
    unfitting p.board.now p.state c.of-head.ensures c.in-Some.is c.row_of.ensures c.fits.ensures
    c.args.verdicts.now c.args.roll.now.words.now c.if-not-fits.true

pub returns-then-board-item : goal.returns-then-board-item
returns-then-board-item c =
    let p = c.args.progress.now in
    let f = fitting p.board.now p.state c.of-head.ensures c.in-Some.is c.row_of.ensures c.fits.ensures c.if-not-fits.false in
    fault_past p.board.now c.args.verdicts.now c.args.roll.now.words.now p.state _ f c.at-item.ensures c.if-board-item.true

pub invariant_of-candidate : goal.invariant_of-candidate
invariant_of-candidate c =
    let p = c.args.progress.now in
    let f = fitting p.board.now p.state c.of-head.ensures c.in-Some.is c.row_of.ensures c.fits.ensures c.if-not-fits.false in
    record {
      at_item = ∣ judged-at (kept-held p.reached) (stands-held p.reached) c.requires.place_in_bounds.1 _ f c.at-item.ensures
          c.if-board-item.false _ c.known_of-known.ensures ∣₁;
    }

pub invariant_of-listed : goal.invariant_of-listed
invariant_of-listed c =
    let p = c.args.progress.now in
    let f = fitting p.board.now p.state c.of-head.ensures c.in-Some.is c.row_of.ensures c.fits.ensures c.if-not-fits.false in
    record { listed = ∣ f.listed ∣₁ }

pub returns-in_err-item_finding : goal.returns-in_err-item_finding
returns-in_err-item_finding c =
    let p = c.args.progress.now in
    let f = fitting p.board.now p.state c.of-head.ensures c.in-Some.is c.row_of.ensures c.fits.ensures c.if-not-fits.false in
    let e = err_from_is_err_and c.from_residual.result c.from_residual.ensures.1 in
    rw (e.1, e.2)
    (judged-fault (kept-held p.reached) (stands-held p.reached) c.requires.place_in_bounds.1 _ f c.at-item.ensures c.if-board-item.false
    _ _ _ c.in_err-item_finding.ensures)

pub returns : goal.returns
returns c =
    let p = c.args.progress.now in
    let f = fitting p.board.now p.state c.of-head.ensures c.in-Some.is c.row_of.ensures c.fits.ensures c.if-not-fits.false in
    let clean = judged-fault (kept-held p.reached) (stands-held p.reached) c.requires.place_in_bounds.1 _ f c.at-item.ensures
    c.if-board-item.false _ _ _ c.in_ok-item_finding.ensures in (
      clean,
      judged-passing (kept-held p.reached) (stands-held p.reached) c.requires.place_in_bounds.1 _ f c.at-item.ensures
          c.if-board-item.false _ _ _ c.known_of-known.ensures clean,
    )
