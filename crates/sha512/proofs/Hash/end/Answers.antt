-- `Hash::end` meets its contract: the words left over are those that are pending.
use Rattle.sha2_common.specs.State as sha2
use Rattle.sha512.specs.State.{ended}
use Rattle.sha512.proofs.Hash.end.Goals as goal

pub returns : goal.returns
unfolding ended sha2.ended
returns c = c.last_blocks.ensures
