-- `rising` meets its contract: the neighbours that were tested are pairs of the roll, and all of them where each test held. Assumes nothing.
use mathlib.Core.Path.{ap, ◌∙◌}
use Rattle.std.proofs.Common.{rules, List, length, ℕ, ltb, Iter}
use Rattle.roll.proofs.Rise.{number, sorted}
use Rattle.roll.proofs.rising.Goals as goal

pub returns : goal.returns
returns c =
    let (p, from, (whole, answer)) = c.is_sorted_by.ensures.runs in
    let numbers = answer (λ x y. ltb (number x) (number y)) (λ x y r f' called. search rules) in
    let chunks = c.as_chunks.ensures in
    let rest = ap (λ (i : Iter (List ℕ)). i.rest.now) from ∙ c.iter.ensures.rest in
    sorted p c.args.roll.now _ (c.iter.ensures.runs p p.seen) (rest ∙ chunks.front) (ap length rest ∙ chunks.front_len) c.args.roll _ whole numbers
