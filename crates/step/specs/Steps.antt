-- Where the audit stands behind the items that passed, and what a step of it ensures.
-- Paper: "Refusals and their order". Assumes nothing.
use Rattle.std.specs.Prelude.{◌≡◌, List, ℕ, ◌+◌, Result, Ok, Err}
use Rattle.index.specs.Kept.{Kept}
use Rattle.lookup.specs.Buckets.{parent_chain, session_chain}
use Rattle.state.specs.Stands.{Stands}
use Rattle.state.specs.declared.State.{State}
use Rattle.tally.specs.Tallied.{Tallied}
use Rattle.refusal.specs.Number.{found_of}
use Rattle.judge.specs.Judged.{fault_after}
use Rattle.refusal.specs.declared.Refusal.{Refusal}

-- the audit stands behind the first s .items items, which pass: the state, both tables and both chain tables are theirs
pub record Reached (board index ballots parent_table session_table : List ℕ) (s : State) : Type 0 where
  pub kept : Kept board index s.items
  pub stands : Stands board s
  pub tallied : Tallied board ballots s.items
  pub parents : parent_table ≡ parent_chain board s.items
  pub sessions : session_table ≡ session_chain board s.items

-- the item after them was judged: the first refusal that applies. Without one the audit stands behind the item, with one it stays
pub record Stepped (board verdicts roll index ballots parents sessions index' ballots' parents' sessions' : List ℕ) (s : State) (r : Result State Refusal) : Type 0 where
  pub finding : found_of r ≡ fault_after board verdicts roll s
  pub passed : (next : State) → r ≡ Ok next → (next.items ≡ s.items + 1) × Reached board index' ballots' parents' sessions' next
  pub failed : (x : Refusal) → r ≡ Err x → (index' ≡ index) × (ballots' ≡ ballots) × (parents' ≡ parents) × (sessions' ≡ sessions)
