-- after so many turns as many words are fed
use Rattle.std.proofs.Common.{◌≡◌, replicate}
use Rattle.vectors.specs.Feeding.{Fed}
use Rattle.vectors.proofs.running.feed_repeated.Given as goal

abbrev pub invariant-loop : goal.invariant-loop
invariant-loop g l =
    let h = g.H.RunningHash in
    ((h.state l.h).count ≡ l.counter) × Fed h.function (h.state l.fn.h) (replicate l.counter l.w) (h.state l.h)
