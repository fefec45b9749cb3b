-- `word_finding` meets its contract. Assumes nothing.
use mathlib.Core.Path.{ap}
use mathlib.Core.Bool.{not}
use Rattle.plan.proofs.Words.{listed-row, word-unlisted, word-misfit, word_fits}
use Rattle.plan.proofs.word_finding.Goals as goal

pub returns-in_default : goal.returns-in_default
returns-in_default c =
    let x = c.args in
    word-unlisted x.board.now x.word (listed-row x.board.now x.word _ c.of-head.ensures c.in_default.is c.row_of.ensures)

pub returns-then-not-fits : goal.returns-then-not-fits
returns-then-not-fits c =
    let x = c.args in
    let row = c.in-Some.row in
    let row_is = listed-row x.board.now x.word _ c.of-head.ensures c.in-Some.is c.row_of.ensures in
    word-misfit x.board.now x.word row row_is c.of-head.ensures c.fits.ensures (ap not c.if-not-fits.true)

pub returns : goal.returns
returns c =
    let x = c.args in
    let row = c.in-Some.row in
    let row_is = listed-row x.board.now x.word _ c.of-head.ensures c.in-Some.is c.row_of.ensures in
    word_fits x.board.now x.word row row_is c.of-head.ensures c.fits.ensures (ap not c.if-not-fits.false)
