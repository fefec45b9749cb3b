-- What a truncated fact about a running state or a check says, with the truncation taken away. Assumes nothing.
use Prim.Native.Nat.{ℕ}
use mathlib.Core.List.{List}
use lib.ListN.{get_or}
use Rattle.std.proofs.Math.Logic.{∥∥₁_elim, ∥∥₁_map}
use Rattle.std.proofs.Props.{props}
use Rattle.model.specs.Types.{Listed}
use Rattle.format.specs.Format.{format_of}
use Rattle.index.specs.Kept.{Kept}
use Rattle.index.specs.declared.Known.{Known}
use Rattle.index.proofs.Had.{listed-had, same_row, kept-had}
use Rattle.state.specs.declared.State.{State}
use Rattle.state.specs.Stands.{Stands, AtItem, IsRow}
use Rattle.format.specs.declared.table.Row.{Row}

-- the state after the first items
pub stands-had : {board : List ℕ} {s : State} → ∥ Stands board s ∥₁ → Stands board s
stands-had t = record {
  place = ∥∥₁_elim t (hlevel props) (λ a. a.place);
  mains = ∥∥₁_elim t (hlevel props) (λ a. a.mains);
  last = ∥∥₁_elim t (hlevel props) (λ a. a.last);
  config = ∥∥₁_elim t (hlevel props) (λ a. a.config);
  threshold = ∥∥₁_elim t (hlevel props) (λ a. a.threshold);
  authorizer = ∥∥₁_elim t (hlevel props) (λ a. a.authorizer);
  intent = ∥∥₁_elim t (hlevel props) (λ a. a.intent);
  contests = ∥∥₁_elim t (hlevel props) (λ a. a.contests);
  rounds = ∥∥₁_elim t (hlevel props) (λ a. a.rounds);
  ballots = ∥∥₁_elim t (hlevel props) (λ a. a.ballots);
}

-- and what it stands on
pub both-had : {board index : List ℕ} {s : State} → ∥ Kept board index s.items × Stands board s ∥₁ → Kept board index s.items × Stands board s
both-had t = (kept-had (∥∥₁_map t (λ b. b.0)), stands-had (∥∥₁_map t (λ b. b.1)))

pub kept-held : {board index : List ℕ} {s : State} → ∥ Kept board index s.items × Stands board s ∥₁ → Kept board index s.items
kept-held t = (both-had t).0

pub stands-held : {board index : List ℕ} {s : State} → ∥ Kept board index s.items × Stands board s ∥₁ → Stands board s
stands-held t = (both-had t).1

-- a check of the item after them
pub at-had : {board index : List ℕ} {s : State} {c : Known} → ∥ AtItem board index s c ∥₁ → AtItem board index s c
at-had {board} {index} {s} {c} t =
    let listed : Listed (format_of board) (get_or board s.place 0) = listed-had (∥∥₁_map t (λ a. a.listed)) in
    record {
      kept = kept-had (∥∥₁_map t (λ a. a.kept));
      stands = stands-had (∥∥₁_map t (λ a. a.stands));
      more = ∥∥₁_elim t (hlevel props) (λ a. a.more);
      known = ∥∥₁_elim t (hlevel props) (λ a. a.known);
      listed = listed;
      counted = ∥∥₁_elim t (hlevel props) (λ a. rw (same_row a.listed listed) at a.counted);
      within = ∥∥₁_elim t (hlevel props) (λ a. a.within);
    }

-- its row of the table
pub row-had : (board : List ℕ) (s : State) (r : Row) → ∥ IsRow board s r ∥₁ → IsRow board s r
row-had board s r t = ∥∥₁_elim t (hlevel props) (λ r. r)

-- for the attribute of a function that needs such a fact
pub ruleset had = (kept-had, stands-had, kept-held, stands-held, at-had, row-had)
