-- Check 11, but for its last sentence (`Opened`), by the tests that the code makes. Assumes nothing.
use Prim.Native.Nat.{ℕ}
use native.Mathlib.Omega.{arith}
use mathlib.Core.Path.{◌≡◌, sym, ap, ◌∙◌}
use mathlib.Core.Logic.{◌≢◌}
use mathlib.Core.Bool.{Bool, true, false, not, ◌||◌}
use mathlib.Core.List.{List}
use lib.Dec.{eqb, eqb→eq}
use borrow.Author.Tests.{eq-eqb, ne_eqb}
use Rattle.model.specs.Lists.{◌⇒◌, part, any}
use Rattle.model.specs.Words.{between, pair}
use Rattle.model.specs.Codes.{threshold_type, authorizer_type, session_type, intent_type}
use Rattle.model.specs.Item as model
use Rattle.model.specs.Item.{code, time}
use Rattle.model.specs.History.{History, item_no, last, typed, session_voter}
use Rattle.model.specs.Phase.{rounds, is_open, session_of, extraction_ok, open_ok, standing_ok, latest_ok, intent_ok}
use Rattle.model.proofs.Tests.{passes, facts}
use Rattle.model.proofs.State.{any-first, any_last}
use Rattle.model.proofs.Unchecked.{length-history}
use Rattle.format.specs.Format.{format_of}
use Rattle.format.specs.declared.phase.Phase.TheVariants.{Voting, Extraction, Track}
use Rattle.index.specs.Kept.{before, item_after}
use Rattle.index.specs.declared.Known.{Known}
use Rattle.state.specs.declared.State.{State}
use Rattle.state.specs.Stands.{AtItem}
use Rattle.state.proofs.Phases.{in_phase, voting-phase, extraction-phase, track-phase}
use Rattle.state.proofs.At.{at_code, at-session, at-time, session-in-range, session-is}
use Rattle.phases.specs.Session.{IsSession}

module _ {board index : List ℕ} {s : State} {c : Known} (a : AtItem board index s c) where
  abbrev h : History
  h = before board s.items

  abbrev i : model.Item
  i = item_after board s.items

  -- an item of a type stands where the state has its number
  pub any-threshold : any (typed threshold_type) h ≡ not (eqb s.threshold 0)
  any-threshold = any-first (typed threshold_type) h ∙ ap (λ (k : ℕ). not (eqb k 0)) (sym a.stands.threshold)

  pub any-authorizer : any (typed authorizer_type) h ≡ not (eqb s.authorizer 0)
  any-authorizer = any_last (typed authorizer_type) h ∙ ap (λ (k : ℕ). not (eqb k 0)) (sym a.stands.authorizer)

  pub any-intent : any (typed intent_type) h ≡ not (eqb s.intent 0)
  any-intent = any-first (typed intent_type) h ∙ ap (λ (k : ℕ). not (eqb k 0)) (sym a.stands.intent)

  -- ---- after the first extraction intent

  pub extraction-before : s.intent ≡ 0 → true ≡ extraction_ok h i
  unfolding extraction_ok ◌⇒◌
  extraction-before q = rw (any-intent, eq-eqb s.intent 0 q)

  -- the tests of the item's phase
  after : s.intent ≢ 0 → extraction_ok h i ≡ (in_phase Extraction c.item.head.code || in_phase Track c.item.head.code)
  unfolding extraction_ok ◌⇒◌
  after q =
      let n = c.item.head.code in
      rw (any-intent, ne_eqb s.intent 0 q, extraction-phase n, track-phase n, at_code a)

  pub extraction-type : s.intent ≢ 0 → {r : Bool} → r ≡ in_phase Extraction c.item.head.code → r ≡ true → r ≡ extraction_ok h i
  extraction-type q e t = rw (after q, ← e, t)

  pub extraction-other : s.intent ≢ 0 → {r t : Bool} → r ≡ in_phase Extraction c.item.head.code → r ≡ false
      → t ≡ in_phase Track c.item.head.code → t ≡ extraction_ok h i
  extraction-other q e f g = rw (after q, ← e, f) g

  -- ---- a round open at its own time

  voting : in_phase Voting c.item.head.code ≡ between 16 21 (code i)
  voting = rw (voting-phase c.item.head.code, at_code a)

  pub open-other : in_phase Voting c.item.head.code ≡ false → true ≡ open_ok h i
  unfolding open_ok ◌⇒◌
  open-other e = rw (← voting, e)

  pub open-voting : in_phase Voting c.item.head.code ≡ true → (t : ℕ) → t ≡ pair (part c.item.time 2 board) → (r : Bool) → r ≡ any (is_open t) (rounds h)
      → r ≡ open_ok h i
  unfolding open_ok ◌⇒◌
  open-voting e t own r q = rw (← voting, e) (q ∙ ap (λ (k : ℕ). any (is_open k) (rounds h)) (own ∙ at-time a))

  -- ---- a threshold and an authorizer for a session

  pub standing-other : c.item.head.code ≢ session_type → true ≡ standing_ok h i
  unfolding standing_ok ◌⇒◌
  standing-other q = rw (← at_code a, ne_eqb c.item.head.code session_type q)

  pub standing-none : c.item.head.code ≡ session_type → s.threshold ≡ 0 → false ≡ standing_ok h i
  unfolding standing_ok ◌⇒◌
  standing-none q n = rw (← at_code a, eq-eqb c.item.head.code session_type q, any-threshold, eq-eqb s.threshold 0 n)

  pub standing-some : c.item.head.code ≡ session_type → s.threshold ≢ 0 → not (eqb s.authorizer 0) ≡ standing_ok h i
  unfolding standing_ok ◌⇒◌
  standing-some q n = rw (← at_code a, eq-eqb c.item.head.code session_type q, any-threshold, ne_eqb s.threshold 0 n, any-authorizer)

  -- ---- the latest session of its voter

  pub latest-other : between 17 21 c.item.head.code ≡ false → true ≡ latest_ok h i
  unfolding latest_ok ◌⇒◌
  latest-other q = rw (← at_code a, q)

  module _ (under : between 17 21 c.item.head.code ≡ true) where
    pub latest-some : (voter : ℕ) → voter ≡ session_voter (item_no h c.session) → (l : ℕ) → l ≡ last (session_of voter) h
        → eqb c.session l ≡ latest_ok h i
    unfolding latest_ok ◌⇒◌
    latest-some voter v l e = rw (← at_code a, under, ← at-session a, ← v, e)

    not-session : c.item.head.code ≢ session_type
    not-session e = let range = simp facts at (passes under) in omega arith

    pub session-under : IsSession h c.session
    session-under = record {
      bound = rw (length-history (format_of board) board s.items) (session-in-range a not-session);
      session = λ l. eqb→eq (code (item_no h c.session)) session_type (session-is a not-session l);
    }

  -- ---- a threshold for an extraction intent

  pub intent-other : c.item.head.code ≢ intent_type → true ≡ intent_ok h i
  unfolding intent_ok ◌⇒◌
  intent-other q = rw (← at_code a, ne_eqb c.item.head.code intent_type q)

  pub intent-some : c.item.head.code ≡ intent_type → not (eqb s.threshold 0) ≡ intent_ok h i
  unfolding intent_ok ◌⇒◌
  intent-some q = rw (← at_code a, eq-eqb c.item.head.code intent_type q, any-threshold)
