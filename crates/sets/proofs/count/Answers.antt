-- `count` meets its contract: the sum of the ones of its words. Assumes nothing.
use native.Mathlib.Omega.{arith}
use mathlib.Core.Path.{◌∙◌}
use lib.Count.{ones}
use Rattle.std.proofs.Common.{rules, tests}
use Rattle.std.proofs.lemmas.Iterator.{YieldsList-from_slice, YieldsList-from_map}
use Rattle.std.proofs.lemmas.Iterator.Consumers.{sum_by_from_yields_List}
use Rattle.sets.proofs.Sets.{size-sum}
use Rattle.sets.proofs.count.Goals as goal

pub returns : goal.returns
returns c =
    let s = c.args.set.now in
    sum_by_from_yields_List ones s c.map.result _ c.sum.ensures.ran (YieldsList-from_map _ ones (YieldsList-from_slice s cc) c.map.ensures.closure (λ x r q k. search (rules, tests)))
    ∙ size-sum s (λ k. omega (arith, c.type_inv.set k))
