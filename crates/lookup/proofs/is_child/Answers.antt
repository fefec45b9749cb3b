-- `is_child` meets its contract: it tests the parent first, then the type. Assumes nothing.
use mathlib.Core.Path.{sym, ◌∙◌}
use Rattle.lookup.proofs.Views.{child-same}
use Rattle.lookup.proofs.is_child.Goals as goal

pub returns-then-parent : goal.returns-then-parent
returns-then-parent c = child-same c.entry.ensures _ _ (sym c.parent.ensures ∙ c.if-parent.true)
