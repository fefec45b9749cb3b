use mathlib.Core.Path.{◌≡◌}
use lib.ListN.{length}
use Rattle.exporting.specs.Export.{export_text}
use Rattle.index.specs.Kept.{before}
use Prim.Native.Nat.{◌*◌, ◌≤◌}
use Rattle.export.specs.Lines.{line_limit}
use Rattle.export.proofs.size.of_text.Given as goal

abbrev pub invariant-loop-done : goal.invariant-loop-done
invariant-loop-done l = (l.total ≡ length (export_text (before l.passed.board.now l.done))) × (l.total ≤ line_limit * l.done)
