-- What a counted ballot needs: five items of its own, and five configuration items before every session. Paper: request (viii).
-- Assumes nothing.
use Prim.Native.Nat.{ℕ, zero, suc, ◌≤◌, ◌<◌}
use native.Mathlib.Omega.{arith}
use native.Mathlib.Decide.{dec_le}
use mathlib.Core.Path.{◌≡◌, refl, sym, ap, ◌∙◌}
use mathlib.Core.Logic.{by_cases}
use mathlib.Core.List.{List}
use lib.ListN.{take}
use lib.Dec.{T, eqb, eqb→eq}
use borrow.Author.Tests.{eq-eqb}
use Rattle.model.specs.Lists.{any, has}
use Rattle.model.specs.Codes.{session_type, voter_commitment_type, server_commitment_type, ballot_type, cast_type}
use Rattle.model.specs.Format.{Format}
use Rattle.model.specs.Item.{code}
use Rattle.model.specs.Types.{table}
use Rattle.model.specs.History.{History, entry, item_no, typed, first}
use Rattle.model.specs.Counted.{Vote, vote_of, counted, LastCast}
use Rattle.model.specs.Needed.{own_items, own_types, config_types, config_items, types_of, Needs}
use Rattle.model.specs.Roll.{Eligibility}
use Rattle.model.specs.Sound.{Passed}
use Rattle.model.proofs.Tests.{passes}
use Rattle.model.proofs.Lists.{Every, every_map, map_same}
use Rattle.model.proofs.Distinct.{has-every}
use Rattle.model.proofs.Numbers.{entry-inside, first_found, first-within}
use Rattle.model.proofs.Table.{parent_type}
use Rattle.model.proofs.Entries.{orderly, fine-at}
use Rattle.model.proofs.Beginnings.{made_at}
use Rattle.model.proofs.Ancestry.{session-parent}
use Rattle.model.proofs.Rows.{counted-casts}
use Rattle.model.proofs.Config.{before-session}

module _ {f : Format} {on : Eligibility} {ws vs : List ℕ} {h : History} (p : Passed f on ws vs h) where
  -- ---- items of its own

  -- item k is of the type c and has the session s
  abbrev In : ℕ → ℕ → ℕ → Type 0
  In s c k = (code (item_no h k) ≡ c) × ((entry h k).session ≡ s)

  -- above an item of the type c stands one of the type d, in the same session
  up : (s c d k : ℕ) → T (parent_type f (λ x. eqb x c) d) → 17 ≤ c → In s c k → In s d (entry h k).parent
  up s c d k t l (type, session) =
      let (one, all) = entry-inside h k (omega arith) in
      let a = fine-at (orderly p) k one all in (
        eqb→eq _ d (a.parent-typed (λ x. eqb x c) d t (passes (eq-eqb _ c type))),
        sym (session-parent p k one all (omega arith) (omega arith)) ∙ session,
      )

  -- a cast and the four items above it are of the types that are needed, and have its session
  own-above : (c : ℕ) → code (item_no h c) ≡ cast_type
      → (types_of h (own_items h c) ≡ own_types) × Every (λ k. (entry h k).session ≡ (entry h c).session) (own_items h c)
  unfolding own_items parent_type table
  own-above c cast =
      let s = (entry h c).session in
      let ballot = up s cast_type ballot_type c tt (omega arith) (cast, refl) in
      let server = up s ballot_type server_commitment_type _ tt (omega arith) ballot in
      let voter = up s server_commitment_type voter_commitment_type _ tt (omega arith) server in
      let session = up s voter_commitment_type session_type _ tt (omega arith) voter in
      (rw (session.0, voter.0, server.0, ballot.0, cast), (session.1, (voter.1, (server.1, (ballot.1, (refl, tt))))))

  -- each counted ballot has its five items, by their types
  pub own-items : Every (λ x. (c : ℕ) × Needs h x c) (counted h)
  own-items = every_map _ _ (λ x a. (a.0, record { cast = a.1; types = (own-above a.0 a.1.cast).0 })) (counted h) (counted-casts h p)

  -- they are in sessions of its voter
  own-voter : {x : Vote} {c : ℕ} → LastCast h x c → (k : ℕ) → T (has k (own_items h c)) → (vote_of h (entry h k)).voter ≡ x.voter
  unfolding vote_of
  own-voter {c} a k t = rw (a.vote, has-every _ k (own_items h c) (own-above c a.cast).1 t)

  -- of two last casts of one voter neither is later
  not-later : {x y : Vote} {c d : ℕ} → LastCast h x c → LastCast h y d → x.voter ≡ y.voter → d ≤ c
  not-later {c} {d} a b same =
      by_cases (dec_le d c) (λ l. l)
      (λ n. absurd (a.last d (omega arith) b.inside.1 b.cast (sym (same ∙ ap (λ (z : Vote). z.voter) b.vote))))

  -- they are its own: no item is among those of two counted ballots
  pub own-apart : {x y : Vote} {c d : ℕ} → LastCast h x c → LastCast h y d → (k : ℕ) → T (has k (own_items h c)) → T (has k (own_items h d)) → c ≡ d
  own-apart a b k s t =
      let same = sym (own-voter a k s) ∙ own-voter b k t in
      omega (arith, not-later a b same, not-later b a (sym same))

  -- ---- what precedes a session

  -- where an item of the type c stands among the first m, the first of that type does
  first-typed : (m c : ℕ) → T (any (typed c) (take m h))
      → (code (item_no h (first (typed c) h)) ≡ c) × ((1 ≤ first (typed c) h) × (first (typed c) h < suc m))
  first-typed m c t =
      let (one, few) = first-within (typed c) h m t in
      (eqb→eq _ c (first_found (typed c) h one), (one, omega arith))

  -- five configuration items of these types precede every session
  pub config-first : (s : ℕ) → code (item_no h s) ≡ session_type
      → (types_of h (config_items h) ≡ config_types) × Every (λ k. (1 ≤ k) × (k < s)) (config_items h)
  config-first zero session = absurd (omega (arith, (entry-inside h 0 (omega arith)).0))
  config-first (suc m) session =
      let c = made_at p m (entry-inside h (suc m) (omega arith)).1 in
      let before = before-session c.before.passed c.meets session in (
        map_same (λ c. code (item_no h (first (typed c) h))) config_types (every_map _ _ (λ c t. (first-typed m c t).0) config_types before),
        every_map _ _ (λ c t. (first-typed m c t).1) config_types before,
      )
