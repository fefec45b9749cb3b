-- Items of the config and of the extraction have no session: no type 16 is met on following parents up from them.
-- Paper: "Session of an item", "Index rows". Assumes nothing.
use Prim.Native.Nat.{ℕ, ◌≤◌}
use native.Mathlib.Omega.{arith}
use mathlib.Core.Path.{◌≡◌}
use mathlib.Core.Bool.{false, not}
use mathlib.Core.List.{List, [], ◌∷◌}
use lib.ListN.{length}
use lib.Dec.{T, eqb, eqb→eq}
use borrow.Author.Tests.{eqb-true, lt-leb}
use Rattle.model.specs.Lists.{◌⇒◌, any}
use Rattle.model.specs.Format.{Format}
use Rattle.model.specs.Item.{Item, code}
use Rattle.model.specs.Types.{ParentRule, zeros, latest_config, of_type, table, in_session}
use Rattle.model.specs.History.{History, Entry, entry, item_no, last, config, parent_number, entry_of}
use Rattle.model.specs.Links.{parent_ok}
use Rattle.model.specs.Roll.{Eligibility}
use Rattle.model.specs.Sound.{Meets, Passed, none, next}
use Rattle.model.proofs.Tests.{or_left, implies-iff, facts}
use Rattle.model.proofs.Lists.{Every, every, every-snoc}
use Rattle.model.proofs.Numbers.{every-entry, last_found}
use Rattle.model.proofs.Table.{row-law, asks, asks_none, genesis-law}
use Rattle.model.proofs.Entries.{Opens, Orderly, orderly, by-sort, parent-some, parent-bound, session-genesis, session-up}

abbrev Outside : ℕ → Type 0
Outside c = T (not (in_session c))

-- an entry whose type has no session has none
abbrev None : Entry → Type 0
None e = Outside (code e.item) → e.session ≡ 0

-- a history that is not empty has a config item: genesis
some-config : (h : History) → Opens h → 1 ≤ length h → T (any config h)
unfolding any
some-config [] o l = absurd (omega arith)
some-config (e ∷ es) o l = or_left (config e) (any config es) (rw (eqb→eq (code e.item) 1 o) tt)

config-outside : (c : ℕ) → c ≤ 6 → Outside c
unfolding in_session
config-outside c l = rw (lt-leb 16 c (omega arith), lt-leb 48 c (omega arith)) tt

module _ {f : Format} {on : Eligibility} {h : History} {v : List ℕ} {i : Item} (m : Meets f on h v i) (o : Orderly f h) where
  -- the parent has none either
  rule-outside : (r : ParentRule) → T (parent_ok f h r i) → T (not (asks_none r)) → T (not (asks in_session r)) → 1 ≤ length h
      → Outside (code (item_no h (parent_number h i)))
  unfolding parent_ok asks asks_none in_session
  rule-outside zeros t n a l = absurd n
  rule-outside latest_config t n a l =
      let found = simp facts at (last_found config (λ e. Unit) h (every _ (λ e. tt) h) (some-config h o.opens l)).0 in
      rw (simp facts at t).1 (config-outside (code (item_no h (last config h))) found.1)
  rule-outside (of_type c) t n a l = rw (simp facts at t).1 a

  pub parent-outside : Outside (code i) → eqb (code i) 1 ≡ false → Outside (code (item_no h (parent_number h i)))
  unfolding table asks in_session ◌⇒◌
  parent-outside t q =
      rule-outside m.listed.row.parent m.parent (rw (genesis-law m.listed, q) tt)
      ((implies-iff (not (in_session (code i))) (not (asks in_session m.listed.row.parent))).0 (row-law (λ k c r. not (in_session c) ⇒ not (asks in_session r.parent)) tt m.listed) t)
      (omega (arith, parent-some m, parent-bound h i q))

  none-new : (p : ℕ) → Every None h → None (entry_of h p i)
  unfolding entry_of in_session
  none-new p all t =
      by-sort i
      (λ q. session-genesis h i q)
      (λ q s. absurd (rw (eqb-true (code i) 16 s) at t))
      (λ q s. rw (session-up h i q s) (every-entry None h (parent_number h i) all (parent-some m) (parent-bound h i q) (parent-outside t q)))

no-sessions : {f : Format} {on : Eligibility} {ws vs : List ℕ} {h : History} → Passed f on ws vs h → Every None h
no-sessions none = tt
no-sessions (next us ts g v i b m) = every-snoc None g (entry_of g (length us) i) (no-sessions b) (none-new m (orderly b) (length us) (no-sessions b))

pub no-session : {f : Format} {on : Eligibility} {ws vs : List ℕ} {h : History} → Passed f on ws vs h → (k : ℕ) → 1 ≤ k → k ≤ length h
    → T (not (in_session (code (item_no h k)))) → (entry h k).session ≡ 0
no-session {h} p k one all = every-entry None h k (no-sessions p) one all
