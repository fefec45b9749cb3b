-- `is_below` meets its contract. Assumes nothing.
use native.Mathlib.Omega.{arith}
use mathlib.Core.Path.{sym, ◌∙◌}
use borrow.Author.Tests.{le-leb}
use Rattle.sets.proofs.Sets.{all_in-below, all_in-wide}
use Rattle.extraction.proofs.is_below.Goals as goal

pub returns-then-m-ge-TRUSTEES : goal.returns-then-m-ge-TRUSTEES
returns-then-m-ge-TRUSTEES c = le-leb _ _ c.if-m-ge-TRUSTEES.true ∙ sym (all_in-wide c.args.set c.args.m c.if-m-ge-TRUSTEES.true)

pub returns-else-m-ge-TRUSTEES : goal.returns-else-m-ge-TRUSTEES
returns-else-m-ge-TRUSTEES c = sym (all_in-below c.args.set c.args.m (omega arith))
