-- `entry` meets its contract: the row holds what the entry says, so its head stands on the board. Assumes nothing.
use native.Mathlib.Omega.{arith}
use mathlib.Core.Path.{ap, ◌∙◌}
use Rattle.index.specs.Rows.{number_in}
use Rattle.index.proofs.Had.{kept-had}
use Rattle.index.proofs.Rows.{row-says, place-within, known_is}
use Rattle.index.proofs.passed.Passed.entry.Goals as goal

pub at-item-requires : goal.at-item-requires
at-item-requires c =
    let kept = (kept-had c.args.self.now.kept) in
    let place = (row-says kept c.args.k c.requires.0 c.requires.1).place in
    let within = place-within kept c.args.k c.requires.0 c.requires.1 in
    (omega (arith, place, c.word.ensures, within), kept.words)

pub returns : goal.returns
returns c =
    known_is (kept-had c.args.self.now.kept) c.args.k c.requires.0 c.requires.1 _ _ _ _
    (c.word.ensures) c.at-item.ensures
    (c.word-2.ensures) (c.number_in.ensures ∙ ap number_in c.word-3.ensures)
