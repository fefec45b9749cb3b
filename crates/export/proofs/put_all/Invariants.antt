use Rattle.exporting.specs.Export.{export_text}
use Rattle.text.specs.Put.{Writes}
use Rattle.index.specs.Kept.{before}
use Rattle.export.proofs.put_all.Given as goal

abbrev pub invariant-loop-done : goal.invariant-loop-done
invariant-loop-done l = Writes l.initial.out (export_text (before l.passed.board.now l.done)) l.out
