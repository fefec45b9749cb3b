-- `Running::fill` meets its contract: by whether the words fill the block.
use Rattle.std.proofs.Common.{rules, ◌≡◌, length}
use Rattle.sha2_common.specs.Blocks.{hash_of}
use Rattle.sha2_common.specs.State.{running}
use Rattle.sha2_common.proofs.Feed.{fed-room, fed-full}
use Rattle.sha2_common.proofs.message.Running.fill.Goals as goal

-- they do
pub returns-then-at-n : goal.returns-then-at-n
returns-then-at-n g c =
    let f = hash_of g.row.S g.H.Blocks.step g.H.Blocks.padding in
    let z = g.met.H.Blocks.sized in
    let sized : length c.args.self.block ≡ g.row.S = search rules in
    fed-full
    f z (running c.args.self) c.args.s.now sized _ c.requires.s_bound.1 c.store.ensures c.if-at-n.true c.compress_blocks-self.ensures

pub returns-else-at-n : goal.returns-else-at-n
returns-else-at-n g c =
    let f = hash_of g.row.S g.H.Blocks.step g.H.Blocks.padding in
    let z = g.met.H.Blocks.sized in
    let sized : length c.args.self.block ≡ g.row.S = search rules in
    fed-room
    f z (running c.args.self) c.args.s.now sized _ c.requires.s_bound.1 c.store.ensures c.requires.s_bound.0 c.if-at-n.false
