-- The rules of genesis, contest, threshold, authorizer and round, by their tests. Assumes nothing.
use Prim.Native.Nat.{ℕ, ◌-◌, ◌*◌, ◌≤◌}
use native.Mathlib.Omega.{arith}
use mathlib.Core.Path.{◌≡◌, refl, ap, ◌∙◌}
use mathlib.Core.Bool.{Bool, true, not, ◌&&◌}
use mathlib.Core.List.{List}
use lib.Dec.{eqb, leb, ltb}
use lib.ListN.{length}
use Rattle.model.specs.Lists.{part}
use Rattle.model.specs.Words.{pair, member, size, all_in}
use Rattle.model.specs.Codes.{genesis_type, contest_type, threshold_type, authorizer_type, round_type}
use Rattle.model.specs.Traits.{traits_known}
use Rattle.model.specs.Item.{Item, word}
use Rattle.model.specs.History.{History}
use Rattle.model.specs.Content.{contests_ok, genesis_ok, contest_ok, threshold_ok, authorizer_ok, round_ok}
use Rattle.format.specs.Format.{format_of, widths_of}
use Rattle.format.specs.declared.format.Format.{Format}
use Rattle.index.specs.declared.Known.{Known}
use Rattle.index.proofs.Counts.{has_words}
use Rattle.index.specs.Kept.{before, item_after}
use Rattle.state.specs.declared.State.{State}
use Rattle.state.specs.Stands.{Stands, AtItem}
use Rattle.state.proofs.Defined.{within-defined}
use Rattle.state.proofs.At.{at_words}
use Rattle.fields.proofs.Words.{of-type, of-other, content-length}

-- a set of contests against those that are defined
pub contests-is : {board : List ℕ} {s : State} → Stands board s → (contests : List ℕ) → length contests ≤ 8 → (empty within : Bool)
    → empty ≡ eqb (size contests) 0 → within ≡ all_in contests (member s.contests)
    → (not empty && within) ≡ contests_ok (before board s.items) contests
unfolding contests_ok
contests-is {board} {s} stands contests few empty within e w = rw (e, w, within-defined (before board s.items) s.contests contests few stands.contests)

module _ {board index : List ℕ} {s : State} {c : Known} (a : AtItem board index s c) where
  abbrev h : History
  h = before board s.items

  abbrev i : Item
  i = item_after board s.items

  -- ---- 1, genesis

  pub genesis-other : (c.item.head.code ≡ genesis_type → ⊥) → true ≡ genesis_ok i
  unfolding genesis_ok
  genesis-other q = of-other a genesis_type q _

  pub genesis-is : c.item.head.code ≡ genesis_type → traits_known (word 17 i) ≡ genesis_ok i
  unfolding genesis_ok
  genesis-is q = of-type a genesis_type q _

  -- ---- 3, contest

  pub contest-other : (c.item.head.code ≡ contest_type → ⊥) → true ≡ contest_ok (format_of board) i
  unfolding contest_ok
  contest-other q = of-other a contest_type q _

  pub contest-is : c.item.head.code ≡ contest_type → (f : Format) → f ≡ widths_of board → ltb (word 0 i) (32 * f.sets) ≡ contest_ok (format_of board) i
  unfolding contest_ok
  contest-is q f d = rw d (of-type a contest_type q _)

  -- ---- 4, threshold

  pub threshold-other : (c.item.head.code ≡ threshold_type → ⊥) → true ≡ threshold_ok i
  unfolding threshold_ok
  threshold-other q = of-other a threshold_type q _

  pub threshold-is : c.item.head.code ≡ threshold_type → (m t : ℕ) → m ≡ word 0 i → t ≡ word 1 i
      → (leb 1 t && leb t m && leb m 32) ≡ threshold_ok i
  unfolding threshold_ok
  threshold-is q m t d e = rw (d, e) (of-type a threshold_type q _)

  -- ---- 5, authorizer

  pub authorizer-other : (c.item.head.code ≡ authorizer_type → ⊥) → true ≡ authorizer_ok i
  unfolding authorizer_ok
  authorizer-other q = of-other a authorizer_type q _

  pub authorizer-is : c.item.head.code ≡ authorizer_type → (mode : ℕ) → mode ≡ word 0 i → (leb 1 mode && leb mode 2) ≡ authorizer_ok i
  unfolding authorizer_ok
  authorizer-is q mode e = rw e (of-type a authorizer_type q _)

  -- ---- 6, round

  pub round-other : (c.item.head.code ≡ round_type → ⊥) → true ≡ round_ok h i
  unfolding round_ok
  round-other q = of-other a round_type q _

  -- its contests are at most eight words
  pub round-words : c.item.head.code ≡ round_type → (content : List ℕ) → content ≡ i.content → (6 ≤ length content) × (length content ≤ 13)
  unfolding has_words
  round-words q content e =
      let words = at_words a round_type 6 13 tt q in
      let long = ap length e ∙ content-length a in
      (omega arith, omega arith)

  pub round-is : c.item.head.code ≡ round_type → (content : List ℕ) → content ≡ i.content → (number start end : ℕ) → number ≡ word 0 i
      → start ≡ pair (part (length content - 2 - 2) 2 content) → end ≡ pair (part (length content - 2) 2 content)
      → (leb number 15 && ltb start end && contests_ok h (part 1 (length content - 2 - 2 - 1) content)) ≡ round_ok h i
  unfolding round_ok
  round-is q content k number start end n d e =
      let words = round-words q i.content refl in
      let start-place : length i.content - 2 - 2 ≡ length i.content - 4 = omega arith in
      let few : length i.content - 4 - 1 ≡ length i.content - 5 = omega arith in
      rw (n, d, e, k, start-place, few) (of-type a round_type q _)
