-- The answer of listing the ancestry of an item of a board that was accepted, and what a list of zeros then holds. Assumes nothing.
use Prim.Native.Nat.{ℕ, ◌≤◌, ◌<◌}
use native.Mathlib.Nat.{sub-zero}
use native.Mathlib.Omega.{arith}
use mathlib.Core.Path.{◌≡◌, sym, ap, ◌∙◌}
use mathlib.Core.Logic.{◌≢◌}
use mathlib.Core.Bool.{not}
use mathlib.Core.List.{List, []}
use lib.ListN.{length, replicate}
use lib.Seq.{sets}
use lib.Dec.{T, eqb, lt→ltb}
use Rattle.model.specs.Refusal.{no_such_item}
use Rattle.model.specs.History.{History}
use Rattle.model.specs.Audit.{accepted}
use Rattle.model.specs.Report.{outside, filled, table_after}
use Rattle.model.specs.Ancestry.{ancestry, list_need, AncestryAnswer, unlisted, listed, ancestry_answer, written, list_after}
use Rattle.model.proofs.Tests.{tests, neither, or_left, or_right, eq→eqb, if_yes, if_no}
use Rattle.model.proofs.Unchecked.{length-history}
use Rattle.format.specs.Format.{format_of}
use Rattle.words.proofs.Writing.{sets-zeros}
use Rattle.index.specs.Kept.{before, Kept}
use Rattle.climb.proofs.Steps.{ancestry-few}

module _ (board : List ℕ) (items number : ℕ) (list : List ℕ) (zeros : list ≡ replicate (length list) 0) where
  abbrev h : History
  h = before board items

  -- the answer, and the list after it
  abbrev Answered : AncestryAnswer → List ℕ → Type 0
  Answered answer after = (answer ≡ ancestry_answer (accepted h) number) × (after ≡ list_after (accepted h) number list)

  -- 19, with all items passed
  none-such : T (outside number (length h)) → Answered (unlisted no_such_item items) list
  unfolding ancestry_answer table_after written filled
  none-such t = (
    sym (if_yes (outside number (length h)) _ _ t ∙ ap (unlisted no_such_item) (length-history (format_of board) board items)),
    zeros ∙ sym (rw (if_yes (outside number (length h)) [] (ancestry h number) t, sub-zero)),
  )

  pub none-zero : number ≡ 0 → Answered (unlisted no_such_item items) list
  none-zero z = none-such (or_left (eqb number 0) _ (eq→eqb number 0 z))

  pub none-past : items < number → Answered (unlisted no_such_item items) list
  none-past l = none-such (or_right (eqb number 0) _ (lt→ltb (length h) number (omega (arith, length-history (format_of board) board items))))

  pub some-asked : {index : List ℕ} → Kept board index items → number ≢ 0 → number ≤ items → list_need ≤ length list → {n : ℕ} {after : List ℕ}
      → n ≡ length (ancestry h number) → after ≡ sets list 0 (ancestry h number) → Answered (listed n) after
  unfolding ancestry_answer table_after written
  some-asked kept z l long e s =
      let there : T (not (outside number (length h))) = simp neither (omega (arith, tests, length-history (format_of board) board items)) in
      let few = ancestry-few kept (omega arith) l in
      let most = kept.few in (
        ap listed e ∙ sym (if_no (outside number (length h)) _ _ there),
        s
            ∙ ap (λ (words : List ℕ). sets words 0 (ancestry h number)) zeros
            ∙ sets-zeros (length list) (ancestry h number) (omega arith)
            ∙ ap (filled (length list)) (sym (if_no (outside number (length h)) _ _ there)),
      )
