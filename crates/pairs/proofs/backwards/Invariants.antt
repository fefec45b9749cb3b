use Prim.Native.Nat.{◌-◌}
use mathlib.Core.Path.{◌≡◌}
use Rattle.model.specs.Compare.{backwards}
use Rattle.pairs.specs.Reading.{mains_of}
use Rattle.pairs.proofs.backwards.Given as goal

abbrev pub invariant-loop-k : goal.invariant-loop-k
invariant-loop-k l =
    let ks = mains_of l.kept.board.now l.kept.count in
    let ls = mains_of l.later.board.now l.later.count in
    backwards ks ls l.a l.b ≡ backwards ks ls (l.a - l.k) (l.b - l.k)
