-- `earlier_word` meets its contract. Assumes nothing.
use native.Mathlib.Omega.{arith}
use mathlib.Core.Path.{◌∙◌}
use Rattle.model.proofs.Unchecked.{length-history}
use Rattle.format.specs.Format.{format_of}
use Rattle.index.proofs.Reading.{known-within}
use Rattle.index.specs.Passed.{history_of}
use Rattle.fields.proofs.Words.{word_none, word_after, known-content-word}
use Rattle.fields.proofs.earlier_word.Goals as goal
use Rattle.fields.proofs.earlier_word.Goals.{then-n-eq0-via-then-n-eq0, then-n-eq0-via-else-n-eq0+then-passed-n}

pub returns-then-n-eq0 : goal.returns-then-n-eq0
returns-then-n-eq0 c =
    let passed = c.args.passed.now in
    elim c.then-n-eq0.branch [
      | then-n-eq0-via-then-n-eq0 w ↦ word_none (history_of passed) c.args.k c.args.n w.if-n-eq0.true
      | then-n-eq0-via-else-n-eq0+then-passed-n w ↦
          word_after (history_of passed) c.args.k c.args.n
          (omega (arith, length-history (format_of passed.board.now) passed.board.now passed.count, w.if-passed-n.true))
    ]

pub part-requires : goal.part-requires
part-requires c = (known-within c.entry.ensures).content

pub returns : goal.returns
returns c = c.word.ensures ∙ rw c.part.ensures.value (known-content-word c.entry.ensures c.args.k)
