-- `meant` meets its contract: the main item with an address is the one that the note means. Assumes nothing.
use Rattle.notes.proofs.Noted.{noted-found}
use Rattle.notes.proofs.meant.Goals as goal

pub returns : goal.returns
returns c =
    let told = rw (c.part-address.ensures.value, c.of.ensures) at c.first_addressed.ensures in
    noted-found _ c.args.held.now.notes.now c.args.k c.size.ensures _ told
