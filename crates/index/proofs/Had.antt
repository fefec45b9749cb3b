-- What a truncated fact about the items so far says, with the truncation taken away: the verdicts of items that pass are given by their
-- writers' keys, and the row of a listed type by the table. Assumes nothing.
use Prim.Native.Nat.{ℕ, zero, suc, ◌≤◌, ◌<◌}
use native.Mathlib.Nat.{le_refl}
use native.Mathlib.Omega.{arith}
use mathlib.Core.Path.{◌≡◌, refl, sym, subst, ◌∙◌}
use mathlib.Core.Option.{Option, none, some, some-injective}
use mathlib.Core.List.{List, [], ◌++◌}
use lib.ListN.{length, take}
use Rattle.std.proofs.Math.Logic.{∥∥₁_elim, ∥∥₁_map}
use Rattle.std.proofs.Props.{props}
use Rattle.std.specs.Bool.{⊤}
use Rattle.model.specs.Format.{Format}
use Rattle.model.specs.Item.{Item}
use Rattle.model.specs.Types.{Row, row_of, Listed}
use Rattle.model.specs.History.{History, Entry, place_of, history}
use Rattle.model.specs.Keys.{key_of, good_verdict}
use Rattle.model.specs.Roll.{Eligibility}
use Rattle.model.specs.Sound.{Meets, Passed}
use Rattle.format.specs.Format.{format_of}
use Rattle.index.specs.Kept.{before, item_after, anyone, Kept}
use Rattle.index.specs.declared.Known.{Known}
use Rattle.index.specs.Known.{IsKnown, Passing}
use Rattle.index.proofs.Items.{place-le, passed-more, entry-met}

-- ---- the row of a listed type, and an item that meets the rules

abbrev IsNone : Option Row → Type 0
IsNone none = ⊤
IsNone (some r) = ⊥

none-some : {r : Row} → Path (Option Row) none (some r) → ⊥
none-some e = subst IsNone e tt

-- the table gives the row
row_had : {f : Format} {w : ℕ} (r : Option Row) → row_of f w ≡ r → ∥ Listed f w ∥₁ → Listed f w
row_had none e t = absurd (∥∥₁_elim t (hlevel props) (λ l. none-some (sym e ∙ l.found)))
row_had (some r) e t = record { row = r; found = e }

pub listed-had : {f : Format} {w : ℕ} → ∥ Listed f w ∥₁ → Listed f w
listed-had {f} {w} t = row_had (row_of f w) refl t

-- it is the row of each proof
pub same_row : {f : Format} {w : ℕ} (l m : Listed f w) → l.row ≡ m.row
same_row l m = some-injective _ _ (sym l.found ∙ m.found)

-- an item that meets the rules under some verdict does so under the good one
abbrev pub MeetsSome : Format → Eligibility → History → Item → Type 0
MeetsSome f on h i = (v : List ℕ) × Meets f on h v i

pub meets-had : {f : Format} {on : Eligibility} {h : History} {i : Item} → ∥ MeetsSome f on h i ∥₁ → MeetsSome f on h i
meets-had {f} {on} {h} {i} t =
    let l : Listed f i.head = listed-had (∥∥₁_map t (λ m. m.1.listed)) in
    let same : (m : MeetsSome f on h i) → m.1.listed.row ≡ l.row = λ m. same_row m.1.listed l in (
      good_verdict (key_of h l.row.writer i),
      record {
        listed = l;
        counted = ∥∥₁_elim t (hlevel props) (λ m. rw (same m) at m.1.counted);
        shaped = record {
          content = ∥∥₁_elim t (hlevel props) (λ m. m.1.shaped.content);
          parent = ∥∥₁_elim t (hlevel props) (λ m. m.1.shaped.parent);
          previous = ∥∥₁_elim t (hlevel props) (λ m. m.1.shaped.previous);
          stamp = ∥∥₁_elim t (hlevel props) (λ m. m.1.shaped.stamp);
          signature = ∥∥₁_elim t (hlevel props) (λ m. m.1.shaped.signature);
          address = ∥∥₁_elim t (hlevel props) (λ m. m.1.shaped.address);
        };
        address = ∥∥₁_elim t (hlevel props) (λ m. m.1.address);
        previous = ∥∥₁_elim t (hlevel props) (λ m. m.1.previous);
        parent = ∥∥₁_elim t (hlevel props) (λ m. rw (same m) at m.1.parent);
        time = ∥∥₁_elim t (hlevel props) (λ m. m.1.time);
        phase = ∥∥₁_elim t (hlevel props) (λ m. m.1.phase);
        only = ∥∥₁_elim t (hlevel props) (λ m. m.1.only);
        content = ∥∥₁_elim t (hlevel props) (λ m. m.1.content);
        enrolled = ∥∥₁_elim t (hlevel props) (λ m. m.1.enrolled);
        verdict = refl;
      },
    )

-- what the code knows of an entry
pub is-known-had : {board : List ℕ} {e : Entry} {r : Known} → ∥ IsKnown board e r ∥₁ → IsKnown board e r
is-known-had t = record {
  same = ∥∥₁_elim t (hlevel props) (λ k. k.same);
  item = ∥∥₁_elim t (hlevel props) (λ k. k.item);
  within = ∥∥₁_elim t (hlevel props) (λ k. k.within);
}

-- ---- the first items of a board

-- the first k pass, under some verdicts
abbrev PassedSome : List ℕ → ℕ → Type 0
PassedSome board k = (vs : List ℕ) × Passed (format_of board) anyone (take (place_of (format_of board) board k) board) vs (before board k)

module _ {board index : List ℕ} {n : ℕ} (t : ∥ Kept board index n ∥₁) where
  within : place_of (format_of board) board n ≤ length board
  within = ∥∥₁_elim t (hlevel props) (λ k. k.within)

  met : (k : ℕ) → k < n → MeetsSome (format_of board) anyone (before board k) (item_after board k)
  met k l = meets-had (∥∥₁_map t (λ kept. let m = entry-met kept k l in (m.verdict, m.meets)))

  passed : (k : ℕ) → k ≤ n → PassedSome board k
  unfolding place_of history
  passed zero l = ([], Passed.none)
  passed (suc k) l =
      let (vs, p) = passed k (omega arith) in
      let (v, m) = met k l in
      (vs ++ v, passed-more board k (omega (arith, place-le board (suc k) n l, within)) p m)

  pub kept-had : Kept board index n
  kept-had = record {
    rows = ∥∥₁_elim t (hlevel props) (λ k. k.rows);
    verdicts = (passed n (le_refl n)).0;
    passed = (passed n (le_refl n)).1;
    within = within;
    few = ∥∥₁_elim t (hlevel props) (λ k. k.few);
    words = ∥∥₁_elim t (hlevel props) (λ k. k.words);
    room = ∥∥₁_elim t (hlevel props) (λ k. k.room);
  }

-- and an item after them that passes, too
pub passing-had : {board index : List ℕ} {n : ℕ} {c : Known} → ∥ Passing board index n c ∥₁ → Passing board index n c
passing-had t =
    let m = meets-had (∥∥₁_map t (λ p. (p.verdict, p.meets))) in
    record {
      kept = kept-had (∥∥₁_map t (λ p. p.kept));
      more = ∥∥₁_elim t (hlevel props) (λ p. p.more);
      known = ∥∥₁_elim t (hlevel props) (λ p. p.known);
      verdict = m.0;
      meets = m.1;
      within = ∥∥₁_elim t (hlevel props) (λ p. p.within);
    }

-- for the attribute of a function that needs such a fact
pub ruleset had = (is-known-had, kept-had, passing-had)
