-- `put_held` meets its contract: the words of the report, and behind them what the notes say. Assumes nothing.
use mathlib.Core.Path.{◌≡◌}
use native.Mathlib.Omega.{arith}
use lib.ListN.{length}
use Rattle.report.specs.Reported.{reported}
use Rattle.answers.specs.Words.{agreement_words, answer_words, said}
use Rattle.answers.proofs.Laws.{behind-put, length-answer_words}
use borrow.Author.Rules.{rules}
use Rattle.answers.proofs.put_held.Goals as goal

pub returns : goal.returns
returns c =
    let r = reported c.args.report in
    let sixteen : length r.end ≡ 16 = search rules in
    behind-put (answer_words r) (agreement_words (said c.args.agreement)) c.args.buffer.now 22 (length-answer_words r sixteen) (omega arith)
    c.put_report.ensures c.agreement_words.ensures c.put_words.ensures
