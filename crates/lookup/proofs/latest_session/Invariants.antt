use Prim.Native.Nat.{◌≤◌}
use mathlib.Core.Path.{◌≡◌}
use Rattle.model.specs.History.{last}
use Rattle.model.specs.Phase.{session_of}
use Rattle.chains.specs.Chain.{last_in}
use Rattle.index.specs.Passed.{history_of}
use Rattle.lookup.specs.Buckets.{of_voter, by_voter}
use Rattle.lookup.proofs.Steps.{up_to}
use Rattle.lookup.proofs.latest_session.Given as goal

abbrev pub invariant-loop-k : goal.invariant-loop-k
invariant-loop-k l =
    let board = l.sessions.passed.board.now in
    let test = session_of l.voter in
    (l.k ≤ l.sessions.passed.count) × (last_in (by_voter board) (of_voter l.voter) l.k ≡ l.k)
    × (last test (history_of l.sessions.passed) ≡ last test (up_to board l.sessions.passed.count l.k))

abbrev pub decreases-loop-k : goal.decreases-loop-k
decreases-loop-k l = l.k
