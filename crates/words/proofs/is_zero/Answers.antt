-- `words::is_zero` meets its contract. Assumes nothing.
use mathlib.Core.Path.{◌∙◌}
use Rattle.std.proofs.Common.{eqb, rules, tests}
use Rattle.std.proofs.lemmas.Iterator.{YieldsList-from_slice}
use Rattle.std.proofs.lemmas.Iterator.Search.{all_from_yields_List}
use Rattle.words.proofs.Runs.{all_zeros}
use Rattle.words.proofs.is_zero.Goals as goal

pub returns : goal.returns
returns c =
    let a = c.args.a.now in
    all_from_yields_List (λ w. eqb w 0) _ _ _ c.all.ensures.ran (YieldsList-from_slice a cc) (λ x b q k. search (rules, tests)) ∙ all_zeros a
