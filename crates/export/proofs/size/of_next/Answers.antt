-- `size::of_next` meets its contract: an item that is no main item has no line. Assumes nothing.
use native.Mathlib.Omega.{arith}
use mathlib.Core.Path.{sym, ap, ◌∙◌}
use lib.ListN.{length}
use Rattle.index.proofs.Had.{kept-had}
use Rattle.export.proofs.Items.{known-whole, text-main, text-hidden}
use Rattle.export.proofs.size.of_next.Goals as goal

pub returns-then-item-ne-MAIN : goal.returns-then-item-ne-MAIN
returns-then-item-ne-MAIN c = record { size = ap length (sym (text-hidden c.entry.ensures c.if-item-ne-MAIN.true)); few = omega arith }

pub of_line-requires : goal.of_line-requires
of_line-requires c = known-whole c.entry.ensures (kept-had c.args.passed.now.kept).words

pub returns : goal.returns
returns c =
    record { size = c.of_line.ensures.size ∙ ap length (sym (text-main c.entry.ensures c.if-item-ne-MAIN.false)); few = c.of_line.ensures.few }
