-- `words::put` meets its contract. Assumes nothing.
use mathlib.Core.Path.{refl}
use Rattle.words.proofs.Writing.{part-sets}
use Rattle.words.proofs.put.Goals as goal

pub returns : goal.returns
returns c =
    let x = c.args in
    part-sets x.buffer.now _ x.words.now x.at _ c.copy_from_slice.ensures.after refl c.requires
