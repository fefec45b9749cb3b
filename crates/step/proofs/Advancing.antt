-- One step of the audit: an item that passes is taken, and one that is refused changes nothing. Assumes nothing.
use Prim.Native.Nat.{ℕ, ◌+◌}
use native.Mathlib.Omega.{arith}
use mathlib.Core.Path.{◌≡◌, refl, sym, ap, subst}
use mathlib.Core.List.{List}
use lib.Seq.{take_all}
use Rattle.model.specs.History.{main_number}
use Rattle.model.proofs.Unchecked.{length-history}
use Rattle.refusal.specs.declared.Refusal.{Refusal}
use Rattle.std.specs.Prelude.{Result, Ok, Err}
use Rattle.format.specs.Format.{format_of}
use Rattle.index.specs.Kept.{before, Kept}
use Rattle.index.specs.Known.{Passing}
use Rattle.index.specs.declared.Known.{Known}
use Rattle.lookup.specs.Buckets.{parent_chain, session_chain}
use Rattle.state.specs.Stands.{Stands}
use Rattle.state.specs.declared.State.{State}
use Rattle.tally.specs.Tallied.{Tallied}
use Rattle.judge.specs.Judged.{IsJudged}
use Rattle.step.specs.Steps.{Reached, Stepped}

-- the main items before the next one are all of them
pub mains-before : {board : List ℕ} {s : State} → Stands board s → s.mains ≡ main_number (before board s.items) s.items
mains-before {board} {s} stands =
    rw (take_all s.items (before board s.items) (omega (arith, length-history (format_of board) board s.items))) stands.mains

-- the tables and the state with one item more
pub reached-next : {board index ballots parents sessions : List ℕ} (s : State) {r : State} → r.items ≡ s.items + 1
    → Kept board index (s.items + 1) → Stands board r → Tallied board ballots (s.items + 1)
    → (parents ≡ parent_chain board (s.items + 1)) × (sessions ≡ session_chain board (s.items + 1))
    → Reached board index ballots parents sessions r
reached-next s n kept stands tallied chains = record {
  kept = rw n kept;
  stands = stands;
  tallied = rw n tallied;
  parents = rw n chains.0;
  sessions = rw n chains.1;
}

-- the value of a result that has one
abbrev in_ok : State → Result State Refusal → State
in_ok d (Ok x) = x
in_ok d (Err x) = d

module _ (board verdicts roll index : List ℕ) (s : State) (j : Result Known Refusal) (judged : IsJudged board verdicts roll index s j) where
  pub judged-passing : (c : Known) → j ≡ Ok c → Passing board index s.items c
  judged-passing c e = (rw e at judged).1

  pub stepped-passes : (c : Known) → j ≡ Ok c → (ballots parents sessions index' ballots' parents' sessions' : List ℕ) (r : State)
      → (r.items ≡ s.items + 1) × Reached board index' ballots' parents' sessions' r
      → Stepped board verdicts roll index ballots parents sessions index' ballots' parents' sessions' s (Ok r)
  stepped-passes c e ballots parents sessions index' ballots' parents' sessions' r next = record {
    finding = sym (rw e at judged).0;
    passed = λ n q. subst (λ (x : State). (x.items ≡ s.items + 1) × Reached board index' ballots' parents' sessions' x) (ap (in_ok r) q) next;
    failed = λ x q. absurd (cc q);
  }

  pub stepped-fails : (x : Refusal) → j ≡ Err x → (ballots parents sessions : List ℕ)
      → Stepped board verdicts roll index ballots parents sessions index ballots parents sessions s (Err x)
  stepped-fails x e ballots parents sessions = record {
    finding = sym (rw e at judged);
    passed = λ n q. absurd (cc q);
    failed = λ y q. (refl, refl, refl, refl);
  }
