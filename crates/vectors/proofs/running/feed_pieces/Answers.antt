use Rattle.std.proofs.Common.{arith, length}
use Rattle.vectors.proofs.Feeding.{fed-none, fed-piece, fed-rest, count-piece, length-piece}
use Rattle.vectors.proofs.running.feed_pieces.Goals as goal

pub loop-place-init : goal.loop-place-init
loop-place-init g c = (omega arith, c.requires.begun, fed-none g.H.RunningHash.function _ c.args.words.now)

pub within-to-requires : goal.within-to-requires
within-to-requires g c = c.loop-place.invariant.0

pub words-h-requires : goal.words-h-requires
words-h-requires g c =
    let l = c.loop-place in
    omega (arith, l.invariant.1, length-piece c.args.words.now l.from c.within-to.result (omega arith) (omega arith), c.requires.room)

pub loop-place-preserved : goal.loop-place-preserved
loop-place-preserved g c =
    let h = g.H.RunningHash in
    let l = c.loop-place in
    let words = c.args.words.now in
    let to = c.within-to.result in (
      omega arith,
      count-piece h.function (h.state l.h) words l.from to (omega arith) (omega arith) l.invariant.1 c.words-h.ensures,
      fed-piece h.function g.met.H.RunningHash.sized words l.from to (omega arith) l.invariant.2 c.words-h.ensures,
    )

pub words-requires : goal.words-requires
words-requires g c =
    let l = c.loop-place in
    let words = c.args.words.now in
    omega (arith, l.invariant.1, length-piece words l.from (length words) (omega arith) (omega arith), c.requires.room)

pub returns : goal.returns
returns g c =
    let h = g.H.RunningHash in
    fed-rest h.function g.met.H.RunningHash.sized c.args.words.now c.loop-place.from c.loop-place.invariant.0 c.loop-place.invariant.2
    c.words.ensures
