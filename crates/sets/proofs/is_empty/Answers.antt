-- `is_empty` meets its contract. Assumes nothing.
use native.Mathlib.Omega.{arith}
use mathlib.Core.Path.{◌∙◌}
use Rattle.sets.proofs.Sets.{size-zero}
use Rattle.sets.proofs.is_empty.Goals as goal

pub returns : goal.returns
returns c = c.is_zero.ensures ∙ size-zero c.args.set.now (λ k. omega (arith, c.type_inv.set k))
