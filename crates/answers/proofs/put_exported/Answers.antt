-- `put_exported` meets its contract: the words of the report, and behind them the number of bytes. Assumes nothing.
use mathlib.Core.Path.{◌≡◌, refl}
use mathlib.Core.List.{[], ◌∷◌}
use native.Mathlib.Omega.{arith}
use lib.ListN.{length}
use Rattle.report.specs.Reported.{reported}
use Rattle.answers.specs.Words.{answer_words}
use Rattle.answers.proofs.Laws.{behind-put, length-answer_words}
use borrow.Author.Rules.{rules}
use Rattle.answers.proofs.put_exported.Goals as goal

pub returns : goal.returns
returns c =
    let r = reported c.args.report in
    let sixteen : length r.end ≡ 16 = search rules in
    behind-put (answer_words r) (c.args.bytes ∷ []) c.args.buffer.now 22 (length-answer_words r sixteen) (omega arith)
    c.put_report.ensures refl c.put_words.ensures
