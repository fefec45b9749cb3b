-- Voter openings: what check 11 asks of one, and that an opened ballot was spoiled first, so it is never counted.
-- Paper: request (iv). Assumes nothing.
use Prim.Native.Nat.{ℕ, zero, suc, ◌≤◌, ◌<◌, suc-le-suc}
use native.Mathlib.Nat.{not-suc-le-zero, le_refl, le_of_suc-le}
use native.Mathlib.Omega.{arith}
use mathlib.Core.Path.{◌≡◌, sym, ap, subst, ◌∙◌}
use mathlib.Core.Logic.{◌≢◌, ◌↔◌}
use mathlib.Core.Bool.{Bool, or-true}
use mathlib.Core.List.{List}
use lib.ListN.{length, take}
use lib.Seq.{take_all, length-take-le}
use lib.Dec.{T, eqb, eqb→eq, lit≤}
use borrow.Author.Tests.{eq-eqb, ne_eqb}
use Rattle.model.specs.Lists.{◌⇒◌, any}
use Rattle.model.specs.Words.{between, code_of}
use Rattle.model.specs.Codes.{ballot_type, cast_type, spoil_type, track_type, verifier_type, voter_opening_type}
use Rattle.model.specs.Format.{Format}
use Rattle.model.specs.Item.{Item, code}
use Rattle.model.specs.Types.{table}
use Rattle.model.specs.History.{History, Entry, entry, item_no, main, typed, first, main_number, parent_number, child_of, closer}
use Rattle.model.specs.Counted.{Vote, vote_of, counted}
use Rattle.model.specs.Phase.{extraction_ok, open_ok, standing_ok, latest_ok, intent_ok, track_ballot, is_spoiled, spoiled_ok, phase_ok}
use Rattle.model.specs.Roll.{Eligibility}
use Rattle.model.specs.Sound.{Passed}
use Rattle.model.proofs.Tests.{by-test, passes, is_true, is_false, eq→eqb, facts}
use Rattle.model.proofs.Lists.{Every, every_map}
use Rattle.model.proofs.Numbers.{any-before, entry-take, entry-inside, first_found, one-main}
use Rattle.model.proofs.State.{any-first}
use Rattle.model.proofs.Table.{parent_type}
use Rattle.model.proofs.Entries.{orderly, fine-at, typed-main}
use Rattle.model.proofs.Beginnings.{made_at}
use Rattle.model.proofs.Ancestry.{parent_of, numbered}
use Rattle.model.proofs.Once.{one-under-ballot}
use Rattle.model.proofs.Closers.{closer-closes, closer-of}
use Rattle.model.proofs.Rows.{counted-casts}

-- an item of a type that is some number
type-some : {n m : ℕ} → n ≡ m → 1 ≤ m → 1 ≤ n
type-some e l = subst (1 ≤◌) (sym e) l

-- ---- a spoil under item k

abbrev spoils : ℕ → Entry → Bool
spoils k = child_of k (λ c. eqb c spoil_type)

-- by its number
abbrev Spoil : History → ℕ → Type 0
Spoil h k = (s : ℕ) × (code (item_no h s) ≡ spoil_type) × ((entry h s).parent ≡ k)

has-spoil : (h : History) (k : ℕ) → T (is_spoiled h k) → Spoil h k
has-spoil h k t =
    let n = first (spoils k) h in
    let some : n ≢ 0 = λ q. absurd (rw (any-first (spoils k) h, q) at t) in
    let (kind, up) = simp facts at (first_found (spoils k) h (omega arith)) in
    (n, kind, up)

is-spoiled : (h : History) (k : ℕ) → Spoil h k → T (is_spoiled h k)
unfolding entry code_of
is-spoiled h k (zero, kind, up) = absurd (omega arith)
is-spoiled h k (suc s, kind, up) =
    let (one, all) = entry-inside h (suc s) (omega arith) in
    rw (take_all (length h) h (le_refl (length h))) at (any-before (spoils k) h s (length h) all all (simp facts (kind, up)))

-- ---- check 11 of the items of a track

module _ (h : History) (i : Item) where
  -- of its rules only the last touches them
  hidden-phase : T (between 48 51 (code i)) → phase_ok h i ≡ spoiled_ok h i
  unfolding phase_ok extraction_ok open_ok standing_ok latest_ok intent_ok ◌⇒◌
  hidden-phase t =
      let range = simp facts at t in
      rw (
        is_true (between 48 51 (code i)) t,
        or-true,
        is_false (between 16 21 (code i)) (λ q. let r = simp facts at q in omega arith),
        is_false (between 17 21 (code i)) (λ q. let r = simp facts at q in omega arith),
        ne_eqb (code i) 16 (λ q. omega arith),
        ne_eqb (code i) 32 (λ q. omega arith),
      )
      (by-test (any (typed 32) h) (λ q. rw q) (λ q. rw q))

  pub track-phase : T (between 48 51 (code i)) → code i ≢ voter_opening_type → T (phase_ok h i)
  unfolding spoiled_ok ◌⇒◌
  track-phase t n = rw (hidden-phase t, ne_eqb (code i) voter_opening_type n) tt

  pub opening-phase : code i ≡ voter_opening_type → T (phase_ok h i) ↔ Spoil h (track_ballot h (parent_number h i))
  unfolding spoiled_ok ◌⇒◌
  opening-phase c =
      let ballot = track_ballot h (parent_number h i) in
      rw (hidden-phase (rw c tt), eq-eqb (code i) voter_opening_type c) (has-spoil h ballot, is-spoiled h ballot)

-- ---- voter openings of a passed history

module _ {f : Format} {on : Eligibility} {ws vs : List ℕ} {h : History} (p : Passed f on ws vs h) where
  -- an item of type c, whose parents are of type d: its parent, and that this is earlier
  above : (c d k : ℕ) → 2 ≤ c → T (parent_type f (λ x. eqb x c) d) → code (item_no h k) ≡ c
      → (code (item_no h (entry h k).parent) ≡ d) × ((entry h k).parent < k)
  above c d k s t q =
      let (one, all) = entry-inside h k (omega arith) in (
        eqb→eq _ d ((fine-at (orderly p) k one all).parent-typed (λ x. eqb x c) d t (eq→eqb _ c q)),
        ((numbered p k one all).parent (λ g. omega arith)).1,
      )

  -- ballots with the same main number are one
  one-ballot : (j k : ℕ) → code (item_no h j) ≡ ballot_type → code (item_no h k) ≡ ballot_type → main_number h j ≡ main_number h k → j ≡ k
  one-ballot j k a b = one-main h j k (λ l. is-main j a) (λ l. is-main k b)
    where
      is-main : (n : ℕ) → code (item_no h n) ≡ ballot_type → T (main (entry h n))
      is-main n c =
          let (one, all) = entry-inside h n (omega arith) in
          typed-main (fine-at (orderly p) n one all) ballot_type (omega arith) (eq→eqb _ _ c)

  -- above a voter opening, item o, stand a verifier, the track's start and the ballot
  abbrev verifier : ℕ → ℕ
  verifier o = (entry h o).parent

  abbrev start : ℕ → ℕ
  start o = (entry h (verifier o)).parent

  abbrev ballot : ℕ → ℕ
  ballot o = track_ballot h (verifier o)

  module _ (o : ℕ) (opened : code (item_no h o) ≡ voter_opening_type) where
    -- the verifier and the start are each earlier than the one below
    record Track : Type 0 where
      is_verifier : code (item_no h (verifier o)) ≡ verifier_type
      is_start : code (item_no h (start o)) ≡ track_type
      is_ballot : code (item_no h (ballot o)) ≡ ballot_type
      verifier_earlier : verifier o < o
      start_earlier : start o < verifier o

    track : Track
    unfolding parent_type table
    track =
        let (a, l) = above voter_opening_type verifier_type o (omega arith) tt opened in
        let (b, m) = above verifier_type track_type (verifier o) (omega arith) tt a in
        let (c, _) = above track_type ballot_type (start o) (omega arith) tt b in
        record { is_verifier = a; is_start = b; is_ballot = c; verifier_earlier = l; start_earlier = m }

    pub track-types : (code (item_no h (verifier o)) ≡ verifier_type) × (code (item_no h (start o)) ≡ track_type)
        × (code (item_no h (ballot o)) ≡ ballot_type)
    track-types = (track.is_verifier, track.is_start, track.is_ballot)

  -- after the items before it, the ballot is the same
  same-ballot : (o : ℕ) → o < length h → code (item_no h (suc o)) ≡ voter_opening_type
      → let g = take o h in track_ballot g (parent_number g (item_no h (suc o))) ≡ ballot (suc o)
  same-ballot o l c =
      let g = take o h in
      let t = track (suc o) c in
      ap (track_ballot g) (sym (parent_of (made_at p o l)))
      ∙ ap (λ (e : Entry). (entry g e.parent).parent) (entry-take h o (verifier (suc o)) (omega arith) (omega arith))
      ∙ ap (λ (e : Entry). e.parent) (entry-take h o (start (suc o)) (omega arith) (omega arith))

  -- the ballot was spoiled before
  pub opened-spoiled : (o : ℕ) → code (item_no h o) ≡ voter_opening_type
      → (s : ℕ) × (s < o) × (code (item_no h s) ≡ spoil_type) × ((entry h s).parent ≡ ballot o)
  opened-spoiled zero c = absurd (not-suc-le-zero (entry-inside h 0 (omega arith)).0)
  opened-spoiled (suc o) c =
      let (one, all) = entry-inside h (suc o) (type-some c (lit≤ tt)) in
      let (s, type, up) = (opening-phase (take o h) (item_no h (suc o)) c).0 (made_at p o all).meets.phase in
      let (least, inside) = entry-inside (take o h) s (type-some type (lit≤ tt)) in
      let few = subst (s ≤◌) (length-take-le o h (le_of_suc-le all)) inside in
      let here = entry-take h o s few (le_of_suc-le all) in
      let kind : code (item_no h s) ≡ spoil_type = ap (λ (e : Entry). code e.item) (sym here) ∙ type in
      (s, suc-le-suc few, kind, ap (λ (e : Entry). e.parent) (sym here) ∙ up ∙ same-ballot o all c)

  -- so no cast stands under it
  pub opened-uncast : (o c : ℕ) → code (item_no h o) ≡ voter_opening_type → code (item_no h c) ≡ cast_type → (entry h c).parent ≢ ballot o
  opened-uncast o c opened cast q =
      let (s, _, kind, up) = opened-spoiled o opened in
      let same = one-under-ballot p s c (rw kind tt) (rw cast tt) (up ∙ sym q) in
      omega (arith, ap (λ (k : ℕ). code (item_no h k)) same)

  -- and its main number is that of no counted ballot
  pub never-opened : Every (λ x. (o : ℕ) → code (item_no h o) ≡ voter_opening_type → main_number h (ballot o) ≢ x.ballot) (counted h)
  unfolding vote_of
  never-opened =
      every_map _ _
      (λ x (c, a) o opened q.
      opened-uncast o c opened a.cast
      (sym (one-ballot (ballot o) (entry h c).parent (track o opened).is_ballot a.ballot (q ∙ ap (λ (y : Vote). y.ballot) a.vote))))
      (counted h) (counted-casts h p)

  -- ---- for the code: whether a ballot was spoiled is told by what closed it

  pub spoiled-by : (k : ℕ) → is_spoiled h k ≡ eqb (code (item_no h (closer h k))) spoil_type
  spoiled-by k =
      by-test (is_spoiled h k)
      (λ q. let (s, kind, up) = has-spoil h k (passes q) in
      let (one, all) = entry-inside h s (omega arith) in
      let closed : closer h k ≡ s = rw up at (closer-of p s one all (rw kind tt)) in
      rw (q, closed, eq-eqb (code (item_no h s)) spoil_type kind))
      (λ q. rw q (sym (ne_eqb (code (item_no h (closer h k))) spoil_type
      (λ kind. let (one, _) = entry-inside h (closer h k) (omega arith) in
      let (_, _, up) = closer-closes h k (λ z. omega arith) in
      absurd (rw q at (is-spoiled h k (closer h k, kind, up)))))))
