use Rattle.std.proofs.Common.{arith}
use Rattle.vectors.proofs.running.in_pieces.Goals as goal

pub feed_pieces-requires : goal.feed_pieces-requires
feed_pieces-requires g c = record { begun = c.new.ensures.counted; room = c.requires }

pub finish-requires : goal.finish-requires
finish-requires g c =
    let holds = c.feed_pieces.ensures g.H.RunningHash.start c.new.ensures in
    (omega (arith, g.met.H.RunningHash.small), omega (arith, holds.counted, c.requires))

pub returns : goal.returns
returns g c = c.finish.ensures _ (c.feed_pieces.ensures g.H.RunningHash.start c.new.ensures)
