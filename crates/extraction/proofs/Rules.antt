-- The rules of extraction data and confirmation, by their tests. Assumes nothing.
use Prim.Native.Nat.{ℕ, ◌+◌, ◌*◌, ◌^◌, ◌<◌}
use mathlib.Core.Path.{◌≡◌, ◌∙◌}
use mathlib.Core.Bool.{Bool, true, ◌&&◌}
use mathlib.Core.List.{List, [], ◌∷◌}
use lib.Count.{ones}
use lib.ListN.{length, get_or}
use lib.Dec.{eqb, leb, ltb}
use Rattle.model.specs.Words.{same_words, all_in}
use Rattle.model.specs.Codes.{extraction_type, confirmation_type}
use Rattle.model.specs.Item.{Item, word}
use Rattle.model.specs.History.{History, item_no}
use Rattle.model.specs.Counted.{counted, contents}
use Rattle.model.specs.Content.{fingerprint_ok, trustees_ok}
use Rattle.sha256_block.specs.Fips.{sha256_words}
use Rattle.format.specs.Format.{format_of}
use Rattle.sets.proofs.Sets.{size-ones}
use Rattle.index.specs.declared.Known.{Known}
use Rattle.index.specs.Kept.{before, item_after}
use Rattle.state.specs.declared.State.{State}
use Rattle.state.specs.Stands.{AtItem}
use Rattle.fields.proofs.Words.{of-type, of-other}

module _ {board index : List ℕ} {s : State} {c : Known} (a : AtItem board index s c) where
  abbrev h : History
  h = before board s.items

  abbrev i : Item
  i = item_after board s.items

  -- ---- 33, extraction data

  pub fingerprint-other : (c.item.head.code ≡ extraction_type → ⊥) → true ≡ fingerprint_ok (format_of board) h i
  unfolding fingerprint_ok
  fingerprint-other q = of-other a extraction_type q _

  pub fingerprint-is : c.item.head.code ≡ extraction_type → (d : List ℕ) → d ≡ sha256_words (contents (counted h))
      → same_words i.content d ≡ fingerprint_ok (format_of board) h i
  unfolding fingerprint_ok
  fingerprint-is q d e = rw e (of-type a extraction_type q _)

  -- ---- 34, confirmation

  pub trustees-other : (c.item.head.code ≡ confirmation_type → ⊥) → true ≡ trustees_ok h i
  unfolding trustees_ok
  trustees-other q = of-other a confirmation_type q _

  -- the trustees w, as many as n; all are below m
  pub trustees-is : c.item.head.code ≡ confirmation_type → (content : List ℕ) → content ≡ i.content → (w n k m t : ℕ) (below : Bool) → w < 2 ^ 32
      → w ≡ get_or content 0 0 → n ≡ ones w → k ≡ ones w → m ≡ word 0 (item_no h s.threshold) → t ≡ word 1 (item_no h s.threshold)
      → below ≡ all_in (w ∷ []) (λ j. ltb j m)
      → (eqb (length content) (1 + n * 16) && below && leb t k) ≡ trustees_ok h i
  unfolding trustees_ok
  trustees-is q content p w n k m t below l e d f u v b =
      let is : w ≡ word 0 i = rw p at e in
      let many = size-ones w l in
      rw (d ∙ many, f ∙ many, b, u, v, is, p, a.stands.threshold) (of-type a confirmation_type q _)
