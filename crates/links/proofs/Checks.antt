-- What the code compares in checks 7 to 10 is what the model asks. Assumes nothing.
use Prim.Native.Nat.{ℕ, ◌+◌, ◌-◌, ◌≤◌, zero-le}
use native.Mathlib.Nat.{mod-lt}
use native.Mathlib.Omega.{arith}
use mathlib.Core.Path.{◌≡◌, sym, ap, ◌∙◌}
use mathlib.Core.Bool.{Bool, true, false, true≢false}
use mathlib.Core.List.{List}
use lib.ListN.{length, get_or, take, drop, replicate}
use lib.Dec.{eqb, leb, lit<}
use borrow.Author.Tests.{eq-eqb, ne_eqb, eqb-false, le-leb}
use Rattle.model.specs.Lists.{if◌then◌otherwise◌, part}
use Rattle.model.specs.Words.{code_of, count_of, pair, same_words}
use Rattle.model.specs.Item as model
use Rattle.model.specs.Item.{item_at, hashed_length, code, is_main, time}
use Rattle.model.specs.Types.{zeros, latest_config, of_type, Listed}
use Rattle.model.specs.Links.{address_ok, previous_ok, parent_ok, time_ok}
use Rattle.model.specs.History.{Entry, entry, item_no}
use Rattle.model.proofs.Tests.{by-test}
use Rattle.model.proofs.Table.{main_code, genesis-law, asks_none}
use Rattle.model.proofs.Numbers.{entry-none}
use Rattle.model.specs.Format.{longest_address}
use Rattle.model.specs.Report.{filled}
use Rattle.format.specs.Format.{format_of, widths_of}
use Rattle.format.specs.Layout.{item_of}
use Rattle.format.specs.declared.format.Format.{Format}
use Rattle.format.specs.declared.item.Item.{Item}
use Rattle.format.specs.declared.table.Row.{Row}
use Rattle.format.specs.declared.table.ParentRule.TheVariants.{OfType}
use Rattle.format.proofs.Traits.{sizes, knows}
use Rattle.format.proofs.Places.{count-is, time-is, address_is, hashed-is, signature-behind}
use Rattle.digests.specs.Digest.{hash_by}
use Rattle.digests.proofs.Digests.{board-digest-first}
use Rattle.index.specs.declared.Known.{Known}
use Rattle.index.specs.Kept.{before, item_after}
use Rattle.index.specs.Known.{IsKnown}
use Rattle.index.proofs.Reading.{parts_within, known-item, known-code, known-address}
use Rattle.state.specs.declared.State.{State}
use Rattle.state.specs.Stands.{AtItem, IsRow}
use Rattle.state.proofs.At.{at-kind, at_code, at-parent, at-parent-words, at-previous-words, at-time, at_listed, parent-in-range, last-in-range, last-item, end_none, end-last}

-- ---- 7, the address

-- the hashed words are few, "the first n + 19 words", on the longest curve n + 35, and they and the address lie within the board
pub record HashedIn (board : List ℕ) (it : Item) : Type 0 where
  pub start : it.place ≤ it.signature
  pub few : it.signature ≤ it.place + 65535 + 35
  pub end : it.signature ≤ length board
  pub address : it.address + (format_of board).address ≤ length board
  pub width : (format_of board).address ≤ longest_address

pub hashed-in : (board : List ℕ) {it : Item} → it ≡ item_of board it.place → it.end ≤ length board → HashedIn board it
unfolding hashed_length count_of
hashed-in board {it} e l =
    let signature : it.signature ≡ (item_of board it.place).signature = ap (λ (x : Item). x.signature) e in
    let behind = signature-behind board it.place in
    let count = count-is board it.place in
    let small = mod-lt (get_or board it.place 0) {m = 65536} (lit< tt) in
    let inside = parts_within it.place e l in
    let sized = sizes board in
    record { start = omega arith; few = omega arith; end = omega arith; address = inside.address; width = sized.address.1 }

pub address_same : (board : List ℕ) (it : Item) (f : Format) (digest : List ℕ) → it ≡ item_of board it.place → it.end ≤ length board → f ≡ widths_of board
    → digest ≡ filled longest_address (hash_by f.curve (take (it.signature - it.place) (drop it.place board)))
    → same_words (part 0 f.address digest) (part it.address f.address board) ≡ address_ok (format_of board) (item_at (format_of board) board it.place)
unfolding address_ok part
address_same board it f digest s within w e =
    let p = it.place in
    let k = knows w in
    let signature : it.signature ≡ (item_of board p).signature = ap (λ (x : Item). x.signature) s in
    let hashed : it.signature - p ≡ hashed_length (format_of board) (item_of board p).head.count = omega (arith, signature-behind board p) in
    let end : it.end ≡ (item_of board p).end = ap (λ (x : Item). x.end) s in
    let address : it.address ≡ (item_of board p).address = ap (λ (x : Item). x.address) s in
    rw (e, k.curve, k.address, board-digest-first, hashed, hashed-is board p (omega arith), address, address_is board p)

module _ {board index : List ℕ} {s : State} {c : Known} (a : AtItem board index s c) where
  abbrev i : model.Item
  i = item_after board s.items

  main-is : (b : Bool) → eqb c.item.head.kind 1 ≡ b → is_main i ≡ b
  main-is b q = ap (λ (k : ℕ). eqb k 1) (sym (at-kind a)) ∙ q

  -- ---- 8, the previous item: the code's width w is that of the board's addresses

  module _ (w : ℕ) (width : w ≡ (format_of board).address) where
    abbrev previous : List ℕ
    previous = part c.item.previous w board

    pub previous-hidden : (c.item.head.kind ≡ 1 → ⊥) → same_words previous (part c.item.parent w board) ≡ previous_ok (format_of board) (before board s.items) i
    unfolding previous_ok if◌then◌otherwise◌
    previous-hidden n = rw (width, at-previous-words a, at-parent-words a, main-is false (ne_eqb _ _ n))

    pub previous-first : c.item.head.kind ≡ 1 → s.last ≡ 0 → same_words previous (replicate w 0) ≡ previous_ok (format_of board) (before board s.items) i
    unfolding previous_ok if◌then◌otherwise◌
    previous-first m z = rw (width, at-previous-words a, main-is true (eq-eqb _ _ m), end_none a.stands z)

    pub previous-main : c.item.head.kind ≡ 1 → (s.last ≡ 0 → ⊥) → (e : Known) → IsKnown board (entry (before board s.items) s.last) e
        → same_words previous (part e.item.address w board) ≡ previous_ok (format_of board) (before board s.items) i
    unfolding previous_ok if◌then◌otherwise◌
    previous-main m n e k = rw (width, at-previous-words a, main-is true (eq-eqb _ _ m), end-last a.stands n, known-address k)

  -- ---- 9, the parent

  pub parent-zeros : (w : ℕ) → w ≡ (format_of board).address
      → same_words (part c.item.parent w board) (replicate w 0) ≡ parent_ok (format_of board) (before board s.items) zeros i
  unfolding parent_ok
  parent-zeros w width = rw (width, at-parent-words a)

  pub parent-config : (c.parent ≡ 0 → ⊥) → eqb c.parent s.config ≡ parent_ok (format_of board) (before board s.items) latest_config i
  unfolding parent_ok
  parent-config n = rw (← at-parent a, ← a.stands.config, ne_eqb c.parent 0 n)

  pub no-config : c.parent ≡ 0 → false ≡ parent_ok (format_of board) (before board s.items) latest_config i
  unfolding parent_ok
  no-config z = rw (← at-parent a, z)

  pub parent-typed : (d : ℕ) → (c.parent ≡ 0 → ⊥) → (e : Known) → IsKnown board (entry (before board s.items) c.parent) e
      → eqb e.item.head.code d ≡ parent_ok (format_of board) (before board s.items) (of_type d) i
  unfolding parent_ok
  parent-typed d n e k = rw (← at-parent a, ne_eqb c.parent 0 n) (ap (λ (x : ℕ). eqb x d) (known-code k))

  pub no-typed : (d : ℕ) → c.parent ≡ 0 → false ≡ parent_ok (format_of board) (before board s.items) (of_type d) i
  unfolding parent_ok
  no-typed d z = rw (← at-parent a, z)

  -- a rule that asks for a type is not that of genesis
  pub typed-in : (d : ℕ) (r : Row) → IsRow board s r → r.parent ≡ OfType d → c.parent ≤ s.items
  unfolding asks_none item_at
  typed-in d r row q =
      let w = get_or board s.place 0 in
      let l : Listed (format_of board) w = record { row = _; found = row } in
      let other : eqb (code_of w) 1 ≡ false = sym (genesis-law l) ∙ rw q in
      parent-in-range a (λ z. eqb-false (code_of w) 1 other (rw a.stands.place (sym (at_code a) ∙ z)))

  -- ---- 10, the time

  abbrev earlier : ℕ
  earlier = if eqb c.item.head.kind 1 then s.last otherwise c.parent

  -- a hidden item is not genesis
  hidden-in : eqb c.item.head.kind 1 ≡ false → c.parent ≤ s.items
  hidden-in q =
      parent-in-range a λ z.
      let t : is_main i ≡ true = main_code (at_listed a) ∙ le-leb (code i) 34 (omega (arith, at_code a)) in
      true≢false (sym t ∙ main-is false q)

  pub earlier-in : earlier ≤ s.items
  unfolding if◌then◌otherwise◌
  earlier-in = by-test (eqb c.item.head.kind 1) (λ q. rw q (last-in-range a.stands)) (λ q. rw q (hidden-in q))

  time_ok-earlier : time_ok (before board s.items) i ≡ leb (time (item_no (before board s.items) earlier)) (time i)
  unfolding time_ok if◌then◌otherwise◌
  time_ok-earlier =
      by-test (eqb c.item.head.kind 1)
      (λ q. rw (main-is true q, q, last-item a.stands))
      (λ q. rw (main-is false q, q, at-parent a))

  pub time-none : earlier ≡ 0 → true ≡ time_ok (before board s.items) i
  unfolding pair
  time-none z =
      sym (time_ok-earlier ∙ rw z (ap (λ (e : Entry). leb (time e.item) (time i)) (entry-none (before board s.items)) ∙ le-leb 0 (time i) zero-le))

  pub time-later : (k : ℕ) → k ≡ earlier → (e : Known) → IsKnown board (entry (before board s.items) k) e
      → leb (pair (part e.item.time 2 board)) (pair (part c.item.time 2 board)) ≡ time_ok (before board s.items) i
  time-later k q e known =
      let there = entry (before board s.items) k in
      let stands : pair (part e.item.time 2 board) ≡ time there.item =
      ap (λ (x : Item). pair (part x.time 2 board)) (known-item known)
      ∙ time-is board there.place
      ∙ ap (λ (x : model.Item). time x) (sym known.item) in
      rw (stands, at-time a, q) (sym time_ok-earlier)
