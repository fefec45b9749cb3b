-- `commitment_ok` meets its contract. Assumes nothing.
use native.Mathlib.Omega.{arith}
use mathlib.Core.Path.{sym, ◌∙◌}
use Rattle.format.proofs.Traits.{knows, sizes}
use Rattle.state.proofs.Had.{at-had}
use Rattle.voting.proofs.Rules.{commitment-other, commitment-is}
use Rattle.voting.proofs.commitment_ok.Goals as goal

pub returns-then-not-is_between : goal.returns-then-not-is_between
returns-then-not-is_between c = commitment-other (at-had c.args.next.now.at_item) (sym c.is_between.ensures ∙ c.if-not-is_between.true)

pub overflow_sub-format : goal.overflow_sub-format
overflow_sub-format c =
    let b = sizes c.args.next.now.board.now in
    let k = knows c.of-format.ensures in
    omega arith

pub returns : goal.returns
returns c =
    rw (c.word.ensures, c.content_of.ensures)
    (commitment-is (at-had c.args.next.now.at_item) (sym c.is_between.ensures ∙ c.if-not-is_between.false) (knows c.of-format.ensures))
