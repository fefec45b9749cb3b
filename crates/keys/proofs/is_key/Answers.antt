-- `is_key` meets its contract. Assumes nothing.
use mathlib.Core.Path.{◌∙◌}
use native.Mathlib.Omega.{arith}
use Rattle.keys.proofs.Keys.{key-short, key-found}
use Rattle.keys.proofs.is_key.Goals as goal

pub returns-in-Some : goal.returns-in-Some
returns-in-Some c =
    let (low, high, is, size) = c.in-Some.ensures.lookup.0 in
    c.same_words.ensures ∙ rw (← c.part-content.ensures.value) (key-found c.args.key.now _ c.args.k c.in-Some.found.now is)

pub returns-in-None : goal.returns-in-None
returns-in-None c =
    let short = c.in-None.ensures.lookup.0 in
    rw (← c.part-content.ensures.value) (key-short c.args.key.now c.requires.1 _ c.args.k (omega arith))
