-- the words up to `from` are fed
use Rattle.std.proofs.Common.{◌≡◌, ◌≤◌, length, take}
use Rattle.vectors.specs.Feeding.{Fed}
use Rattle.vectors.proofs.running.feed_pieces.Given as goal

abbrev pub invariant-loop-place : goal.invariant-loop-place
invariant-loop-place g l =
    let h = g.H.RunningHash in
    (l.from ≤ length l.words) × ((h.state l.h).count ≡ l.from) × Fed h.function (h.state l.fn.h) (take l.from l.words) (h.state l.h)
