-- `put_report` meets its contract: the words before the end address, and behind them the end address. Assumes nothing.
use native.Mathlib.Omega.{arith}
use mathlib.Core.Path.{ap, ◌∙◌}
use mathlib.Core.List.{List}
use Prim.Native.Nat.{ℕ}
use Rattle.report.specs.Reported.{reported}
use Rattle.answers.specs.Words.{head_words, answer_words, overwritten}
use Rattle.answers.proofs.Laws.{behind-put, length-head_words}
use Rattle.answers.proofs.put_report.Goals as goal

pub returns : goal.returns
unfolding answer_words
returns c =
    let r = reported c.args.report in
    behind-put (head_words r) r.end c.args.buffer.now 6 (length-head_words r) (omega arith)
    (c.put_words.ensures ∙ ap (λ (w : List ℕ). overwritten w c.args.buffer.now) c.head_words.ensures) c.end_words.ensures c.put_words-2.ensures
