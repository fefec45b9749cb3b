-- `fingerprint_ok` meets its contract. Assumes nothing.
use mathlib.Core.Path.{◌∙◌}
use Rattle.state.proofs.Had.{at-had}
use Rattle.extraction.proofs.Rules.{fingerprint-other, fingerprint-is}
use Rattle.extraction.proofs.fingerprint_ok.Goals as goal

pub returns-then-next-ne-EXTRACTION : goal.returns-then-next-ne-EXTRACTION
returns-then-next-ne-EXTRACTION c = fingerprint-other (at-had c.args.next.now.at_item) c.if-next-ne-EXTRACTION.true

pub returns : goal.returns
returns c =
    let fingerprint = rw (c.progress.ensures.board, c.progress.ensures.state) at c.fingerprint-fingerprint.ensures in
    c.same_words.ensures ∙ rw c.content_of.ensures (fingerprint-is (at-had c.args.next.now.at_item) c.if-next-ne-EXTRACTION.false _ fingerprint)
