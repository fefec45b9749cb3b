use Prim.Native.Nat.{◌+◌, ◌*◌, ◌≤◌}
use lib.ListN.{take}
use Rattle.model.specs.Audit.{ballot_row}
use Rattle.model.specs.Program.{row_lines}
use Rattle.text.specs.Put.{Writes}
use Rattle.text.proofs.line.row_lines.Given as goal

abbrev pub invariant-loop-row : goal.invariant-loop-row
invariant-loop-row l = record {
  put : Writes l.initial.text (row_lines (take (ballot_row * l.row-index) l.table)) l.text;
  most : l.text.at ≤ l.initial.text.at + 64 * l.row-index;
}
