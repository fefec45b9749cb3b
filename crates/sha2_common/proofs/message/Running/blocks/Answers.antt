-- `Running::blocks` meets its contract.
use Rattle.sha2_common.specs.Blocks.{hash_of}
use Rattle.sha2_common.specs.State.{running}
use Rattle.sha2_common.proofs.Feed.{fed-blocks}
use Rattle.sha2_common.proofs.message.Running.blocks.Goals as goal

pub returns : goal.returns
returns g c =
    let f = hash_of g.row.S g.H.Blocks.step g.H.Blocks.padding in
    let z = g.met.H.Blocks.sized in
    fed-blocks
    f z (running c.args.self) c.args.s.now c.requires.count_value.0 c.requires.count_value.1 c.compress_blocks-self.ensures
