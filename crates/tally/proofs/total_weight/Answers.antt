-- `total_weight` meets its contract. Assumes nothing.
use Prim.Native.Nat.{◌≤◌, ◌^◌}
use lib.ListN.{length, get_or}
use native.Mathlib.Omega.{arith}
use mathlib.Core.Path.{◌∙◌}
use Rattle.std.proofs.Common.{rules, tests}
use Rattle.std.proofs.lemmas.Iterator.{YieldsList-from_slice, YieldsList-from_map}
use Rattle.std.proofs.lemmas.Iterator.Adapters.{fits_from_length, at_most_from_yields_List}
use Rattle.std.proofs.lemmas.Iterator.Consumers.{sum_by_from_yields_List}
use Rattle.model.specs.Audit.{item_limit}
use Rattle.tally.proofs.Table.{weights}
use Rattle.tally.proofs.total_weight.Goals as goal

pub sum-requires-clause-fits : goal.sum-requires-clause-fits
sum-requires-clause-fits c =
    let few : length c.held.result.now ≤ item_limit = omega arith in
    fits_from_length _ _ item_limit (2 ^ 64) (at_most_from_yields_List (YieldsList-from_slice c.held.result.now cc) few) c.map.ensures.closure (omega arith) (λ x r q k. search rules)

pub returns : goal.returns
returns c xs t =
    sum_by_from_yields_List (λ row. get_or row 2 0) c.held.result.now _ _ c.sum.ensures.ran
    (YieldsList-from_map _ (λ row. get_or row 2 0) (YieldsList-from_slice c.held.result.now cc) c.map.ensures.closure (λ x r q k. search (rules, tests)))
    ∙ rw (c.held.ensures.votes xs t) (weights xs)
