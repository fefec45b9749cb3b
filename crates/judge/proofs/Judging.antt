-- From what the code found of the item at hand to the first refusal that the model gives it. Assumes nothing.
use Prim.Native.Nat.{ℕ, ◌≤◌, ◌<◌}
use mathlib.Core.Path.{◌≡◌, refl, sym, ap, ◌∙◌}
use mathlib.Core.Bool.{Bool, true, false}
use mathlib.Core.Option.{none}
use mathlib.Core.List.{List}
use lib.ListN.{length, get_or}
use borrow.Author.Tests.{lt-ltb, le-ltb}
use Rattle.model.specs.Lists.{if◌then◌otherwise◌}
use Rattle.model.specs.Refusal.{no_fault, unknown_type, wrong_count, truncated}
use Rattle.model.specs.Words.{kind_of, code_of, count_of}
use Rattle.model.specs.Item.{behind}
use Rattle.model.specs.Types as types
use Rattle.model.specs.History.{place_of, entry_of}
use Rattle.model.specs.Roll.{on_roll}
use Rattle.model.specs.Audit.{first_unmet, fault_in, head_fault, item_limit}
use Rattle.model.proofs.Tests.{passes}
use Rattle.model.proofs.Unchecked.{length-history}
use Rattle.model.proofs.FirstItems.{fault-meets}
use Rattle.format.specs.Format.{format_of}
use Rattle.format.specs.Layout.{head_of, item_of}
use Rattle.format.specs.Table.{row_of, counts_of}
use Rattle.format.specs.declared.head.Head.{Head}
use Rattle.format.specs.declared.item.Item.{Item}
use Rattle.format.specs.declared.table.Row.{Row}
use Rattle.std.specs.Prelude.{Option, Some}
use Rattle.index.specs.Kept.{Kept}
use Rattle.index.specs.Known.{Passing}
use Rattle.index.specs.declared.Known.{Known}
use Rattle.index.proofs.Items.{meets-anyone}
use Rattle.state.specs.declared.State.{State}
use Rattle.state.specs.Stands.{Stands, known_next, AtItem, IsRow}
use Rattle.keys.specs.Verdicts.{verdict_at}
use Rattle.judge.specs.Checks.{row_with, checks_of}
use Rattle.judge.specs.Judged.{fault_after}
use Rattle.judge.proofs.Item.{item-end}

-- ---- the head: 5, 6, 4

-- the row that the code found is the model's
pub listed-row : (board : List ℕ) (s : State) {head : Head} (listing : Option Row) {found : Option Row} → head ≡ head_of (get_or board s.place 0)
    → found ≡ listing → row_of head.kind head.code found ≡ types.row_in head.kind head.code (types.table (format_of board))
    → types.row_of (format_of board) (get_or board s.place 0) ≡ row_of (kind_of (get_or board s.place 0)) (code_of (get_or board s.place 0)) listing
unfolding types.row_of
listed-row board s listing is same found = sym (rw (is, same) at found)

-- a listed head whose count fits
pub record Fitting (board : List ℕ) (s : State) (row : Row) : Type 0 where
  pub listed : IsRow board s row
  pub counted : types.fits (counts_of row.counts) (count_of (get_or board s.place 0)) ≡ true

-- what the code was told of a count
count-told : (board : List ℕ) (s : State) {head : Head} (counts : types.Counts) {b a : Bool} → head ≡ head_of (get_or board s.place 0)
    → b ≡ types.fits counts head.count → b ≡ a → types.fits counts (count_of (get_or board s.place 0)) ≡ a
count-told board s counts is e q = sym (e ∙ ap (λ (h : Head). types.fits counts h.count) is) ∙ q

module _ (board : List ℕ) (s : State) {head : Head} {found : Option Row} {row : Row} {b : Bool} (is : head ≡ head_of (get_or board s.place 0))
    (some : found ≡ Some row) (told : row_of head.kind head.code found ≡ types.row_in head.kind head.code (types.table (format_of board)))
    (fit : b ≡ types.fits (counts_of row.counts) head.count) where
  pub fitting : b ≡ true → Fitting board s row
  fitting q = record { listed = listed-row board s (Some row) is some told; counted = count-told board s (counts_of row.counts) is fit q }

  pub unfitting : (verdicts roll : List ℕ) → b ≡ false → fault_after board verdicts roll s ≡ wrong_count
  unfolding fault_in head_fault if◌then◌otherwise◌
  unfitting verdicts roll q = rw (listed-row board s (Some row) is some told, count-told board s (counts_of row.counts) is fit q)

module _ (board verdicts roll : List ℕ) (s : State) where
  abbrev word : ℕ
  word = get_or board s.place 0

  pub fault-unlisted : types.row_of (format_of board) word ≡ none → fault_after board verdicts roll s ≡ unknown_type
  unfolding fault_in head_fault
  fault-unlisted q = rw q

  module _ (row : Row) (f : Fitting board s row) where
    pub fault_past : {item : Item} → item ≡ item_of board s.place → length board < item.end → fault_after board verdicts roll s ≡ truncated
    unfolding fault_in head_fault if◌then◌otherwise◌
    fault_past at_place l = rw (f.listed, f.counted, lt-ltb _ _ (rw (item-end board s.place at_place) at l))

    -- 7 to 16 and 21
    pub fault-checks : Stands board s → behind (format_of board) board s.place ≤ length board
        → fault_after board verdicts roll s ≡ first_unmet (checks_of board (on_roll roll) (verdict_at verdicts s.items) s row)
    unfolding fault_in head_fault if◌then◌otherwise◌
    fault-checks stands l = rw (f.listed, f.counted, le-ltb _ _ l, length-history (format_of board) board s.items, stands.place)

-- ---- the item at hand

module _ {board index : List ℕ} {s : State} (kept : Kept board index s.items) (stands : Stands board s) (more : s.items < item_limit)
    (row : Row) (f : Fitting board s row)
    {item : Item} (is-item : item ≡ item_of board s.place) (within : item.end ≤ length board) where
  pub judged-at : (c : Known) → c ≡ known_next board s → AtItem board index s c
  unfolding entry_of
  judged-at c known = record {
    kept = kept;
    stands = stands;
    more = more;
    known = known;
    listed = record { row = row_with board s row; found = f.listed };
    counted = passes f.counted;
    within = rw (known, ← is-item) within;
  }

  fit : behind (format_of board) board s.place ≤ length board
  fit = rw (item-end board s.place is-item) at within

  -- what is found of 7 to 16 and 21 is the answer
  pub judged-fault : (verdicts roll : List ℕ) (n : ℕ) → n ≡ first_unmet (checks_of board (on_roll roll) (verdict_at verdicts s.items) s row) → fault_after board verdicts roll s ≡ n
  judged-fault verdicts roll n e = fault-checks board verdicts roll s row f stands fit ∙ sym e

  -- an item without a refusal passes
  pub judged-passing : (verdicts roll : List ℕ) (c : Known) → c ≡ known_next board s
      → fault_after board verdicts roll s ≡ no_fault → Passing board index s.items c
  unfolding place_of
  judged-passing verdicts roll c known clean =
      let (inside, met) = fault-meets (format_of board) (on_roll roll) board verdicts s.items _ refl (rw stands.place at clean) in
      record {
        kept = kept;
        more = more;
        known = rw stands.place at known;
        verdict = _;
        meets = meets-anyone met;
        within = inside;
      }
