use Rattle.std.proofs.Common.{◌≡◌, [], ◌∷◌, arith, replicate, subst, ℕ}
use Rattle.sha2_common.proofs.Feed.{fed-count}
use Rattle.vectors.specs.Feeding.{Fed}
use Rattle.vectors.proofs.Feeding.{fed-start, fed-word}
use Rattle.vectors.proofs.running.feed_repeated.Goals as goal

pub loop-init : goal.loop-init
loop-init g c = (c.requires.begun, fed-start g.H.RunningHash.function _ c.args.w)

pub word-h-requires : goal.word-h-requires
word-h-requires g c = omega (arith, c.loop.invariant.0, c.requires.room)

pub loop-preserved : goal.loop-preserved
loop-preserved g c =
    let h = g.H.RunningHash in
    let l = c.loop in
    let w = c.args.w in
    let n = fed-count h.function (h.state l.h) (w ∷ []) c.word-h.ensures in
    (omega (arith, n), fed-word h.function g.met.H.RunningHash.sized w l.counter l.invariant.1 c.word-h.ensures)

pub returns : goal.returns
returns g c =
    let h = g.H.RunningHash in
    let l = c.loop in
    let all : l.counter ≡ c.args.n = omega arith in
    subst (λ (k : ℕ). Fed h.function (h.state c.args.h) (replicate k c.args.w) (h.state l.h)) all l.invariant.1
