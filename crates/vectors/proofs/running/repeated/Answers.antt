use Rattle.std.proofs.Common.{arith}
use Rattle.std.proofs.lemmas.List.{length-replicate}
use Rattle.vectors.proofs.running.repeated.Goals as goal

pub feed_repeated-requires : goal.feed_repeated-requires
feed_repeated-requires g c = record { begun = c.new.ensures.counted; room = c.requires }

pub finish-requires : goal.finish-requires
finish-requires g c =
    let holds = c.feed_repeated.ensures g.H.RunningHash.start c.new.ensures in
    (omega (arith, g.met.H.RunningHash.small), omega (arith, holds.counted, c.requires, length-replicate c.args.n c.args.w))

pub returns : goal.returns
returns g c = c.finish.ensures _ (c.feed_repeated.ensures g.H.RunningHash.start c.new.ensures)
