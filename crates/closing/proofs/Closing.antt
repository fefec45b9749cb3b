-- The closing word: what the code tests is what the model asks, and the report of an accepted board is the model's. Assumes nothing.
use Prim.Native.Nat.{ℕ, ◌+◌, ◌-◌, ◌*◌, ◌≤◌}
use native.Mathlib.Omega.{arith}
use mathlib.Core.Path.{◌≡◌, sym, ap, ◌∙◌}
use mathlib.Core.Bool.{Bool, true, false}
use mathlib.Core.List.{List}
use lib.ListN.{length, take, drop, replicate, length-take, length-drop, length-replicate, replicate-append-replicate}
use lib.Seq.{sets}
use lib.Dec.{eqb}
use Rattle.model.specs.Lists.{if◌then◌otherwise◌, part}
use Rattle.model.specs.Refusal.{bad_closing}
use Rattle.model.specs.Item.{item_length}
use Rattle.model.specs.History.{History, Entry, end_address}
use Rattle.model.specs.Counted.{counted, total_weight}
use Rattle.model.specs.Audit.{refused, accepted, closing, is_closed, closing_ok}
use Rattle.model.specs.Format.{longest_address}
use Rattle.model.specs.Report.{filled, report_of}
use Rattle.model.proofs.Unchecked.{length-history}
use Rattle.words.proofs.Writing.{sets-zeros}
use Rattle.format.specs.Format.{format_of}
use Rattle.format.specs.Layout.{item_of}
use Rattle.format.specs.declared.item.Item.{Item}
use Rattle.format.proofs.Traits.{sizes}
use Rattle.index.specs.Kept.{before}
use Rattle.index.specs.Known.{IsKnown}
use Rattle.index.specs.declared.Known.{Known}
use Rattle.index.proofs.Reading.{known-item, known-address}
use Rattle.state.specs.Stands.{Stands}
use Rattle.state.specs.declared.State.{State}

-- ---- 18

module _ (board verdicts : List ℕ) (s : State) where
  abbrev Closed : Bool
  Closed = closing_ok board verdicts (before board s.items) s.place

  module _ {b : Bool} (e : b ≡ is_closed board s.items s.place) where
    pub closed-word : b ≡ false → false ≡ Closed
    closed-word q = rw (length-history (format_of board) board s.items, ← e, q)

    pub closed-verdicts : b ≡ true → eqb (9 * s.items) (length verdicts) ≡ Closed
    closed-verdicts q = rw (length-history (format_of board) board s.items, ← e, q)

-- ---- the end address

-- an address stands before the end of its item, within the board, and has at most 16 words
pub record AddressIn (board : List ℕ) (i : Item) : Type 0 where
  pub words : i.end ≡ i.address + (format_of board).address
  pub within : i.end ≤ length board
  pub few : (format_of board).address ≤ longest_address

module _ {board : List ℕ} {e : Entry} {r : Known} (is : IsKnown board e r) where
  pub address-in : AddressIn board r.item
  unfolding item_of item_length
  address-in =
      let item = known-item is in
      let at = ap (λ (i : Item). i.address) item in
      let end = ap (λ (i : Item). i.end) item in
      record { words = omega arith; within = is.within; few = (sizes board).address.1 }

  abbrev words : List ℕ
  words = take (r.item.end - r.item.address) (drop r.item.address board)

  pub words-few : length words ≤ longest_address
  words-few = let a = address-in in simp (length-take, length-drop) (omega arith)

  -- the words from its place up to that end, put over zeros
  pub end-put : {end put : List ℕ} → end ≡ e.item.address → put ≡ sets (replicate longest_address 0) 0 words → put ≡ filled longest_address end
  unfolding part
  end-put q p =
      let a = address-in in
      let size : r.item.end - r.item.address ≡ (format_of board).address = omega arith in
      let same : words ≡ _ = rw size (known-address is) ∙ sym q in
      p ∙ sets-zeros longest_address words words-few ∙ ap (filled longest_address) same

-- an address of zeros, and zeros behind it
pub end-zeros : (board : List ℕ) {end : List ℕ} → end ≡ replicate (format_of board).address 0 → replicate longest_address 0 ≡ filled longest_address end
unfolding filled
end-zeros board q =
    let n = (format_of board).address in
    let b = sizes board in
    let whole : n + (longest_address - n) ≡ longest_address = omega arith in
    rw (q, length-replicate) (sym (replicate-append-replicate n (longest_address - n) 0 ∙ rw whole))

-- ---- the outcome, and the report

module _ (board verdicts : List ℕ) (s : State) where
  abbrev h : History
  h = before board s.items

  pub close-bad : closing_ok board verdicts h s.place ≡ false → closing (closing_ok board verdicts h s.place) h ≡ refused bad_closing s.items
  unfolding closing if◌then◌otherwise◌
  close-bad q = rw (q, length-history (format_of board) board s.items)

  pub close-good : closing_ok board verdicts h s.place ≡ true → closing (closing_ok board verdicts h s.place) h ≡ accepted h
  unfolding closing if◌then◌otherwise◌
  close-good q = rw q

pub accepted-report : {board : List ℕ} {s : State} → Stands board s → (weight : ℕ) (end : List ℕ)
    → weight ≡ total_weight (counted (before board s.items)) → end ≡ filled longest_address (end_address (format_of board) (before board s.items))
    → record { number = 0; items = s.items; mains = s.mains; end = end; ballots = s.ballots; weight = weight } ≡ report_of (format_of board) (accepted (before board s.items))
unfolding report_of
accepted-report {board} {s} stands weight end ew ee =
    λ j. record {
      number = 0;
      items = sym (length-history (format_of board) board s.items) j;
      mains = stands.mains j;
      end = ee j;
      ballots = stands.ballots j;
      weight = ew j;
    }
