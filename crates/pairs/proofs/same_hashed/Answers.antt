-- `same_hashed` meets its contract: the slices that are compared are the hashed words of both items. Assumes nothing.
use Rattle.pairs.proofs.Hashed.{hashed-same}
use Rattle.pairs.proofs.same_hashed.Goals as goal

pub returns : goal.returns
returns c = hashed-same c.requires.0 c.requires.1 c.same_words.ensures
