use Prim.Native.Nat.{◌≤◌}
use mathlib.Core.Path.{◌≡◌}
use Rattle.model.specs.History.{first}
use Rattle.chains.specs.Chain.{last_in}
use Rattle.index.specs.Passed.{history_of}
use Rattle.lookup.specs.Search.{addressed}
use Rattle.lookup.specs.Buckets.{of_address, by_address}
use Rattle.lookup.proofs.Steps.{up_to}
use Rattle.lookup.proofs.Walk.{◌or_else◌}
use Rattle.lookup.proofs.first_addressed.Given as goal

abbrev pub invariant-loop-number : goal.invariant-loop-number
invariant-loop-number l =
    let board = l.parents.passed.board.now in
    let test = addressed l.main l.address in
    (l.number ≤ l.parents.passed.count) × (last_in (by_address board) (of_address l.address) l.number ≡ l.number)
    × (first test (history_of l.parents.passed) ≡ first test (up_to board l.parents.passed.count l.number) or_else l.found)

abbrev pub decreases-loop-number : goal.decreases-loop-number
decreases-loop-number l = l.number
