use Prim.Native.Nat.{◌-◌}
use mathlib.Core.Path.{◌≡◌}
use Rattle.watch.specs.Notes.{item_before, held_from, held}
use Rattle.format.specs.Format.{format_of}
use Rattle.index.specs.Passed.{history_of}
use Rattle.notes.proofs.hold.Given as goal

abbrev pub invariant-loop-k : goal.invariant-loop-k
invariant-loop-k l =
    let f = format_of l.held.parents.passed.board.now in
    let ns = l.held.notes.now in
    let h = history_of l.held.parents.passed in
    (held f ns h ≡ held_from f ns h l.k (l.k-end - l.k)) × (l.last ≡ item_before f ns h l.k)
