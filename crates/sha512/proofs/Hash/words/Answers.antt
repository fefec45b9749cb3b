-- `Hash::words` meets its contract.
use Rattle.std.proofs.Common.{ap}
use Rattle.sha512.specs.State.{hash, fed}
use Rattle.sha512.proofs.Hash.words.Goals as goal

pub returns : goal.returns
unfolding fed
returns c = ap hash c.words-self.ensures
