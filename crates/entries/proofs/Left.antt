-- What is left in a buffer that no refusal changes, by what the audit answered. Assumes nothing.
use Prim.Native.Nat.{ℕ}
use mathlib.Core.Path.{◌≡◌, ◌∙◌}
use mathlib.Core.List.{List}
use Rattle.model.specs.History.{History}
use Rattle.model.specs.Audit.{Outcome, accepted}
use Rattle.model.specs.Above.{buffer_after}
use Rattle.audit.proofs.Laws.{RefusedAs, unchanged, cleared}

module _ {o : Outcome} (made : History → List ℕ → List ℕ) (s : List ℕ) where
  pub left-refused : {n k : ℕ} → RefusedAs o n k → s ≡ buffer_after o made s
  unfolding buffer_after
  left-refused (unchanged e none) = rw e
  left-refused (cleared e) = rw e

  pub left-accepted : {h : History} → o ≡ accepted h → {t : List ℕ} → t ≡ made h s → t ≡ buffer_after o made s
  unfolding buffer_after
  left-accepted accepts e = e ∙ rw accepts
