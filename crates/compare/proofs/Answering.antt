-- The answer of comparing two boards that were accepted, by the main number asked for. Assumes nothing.
use Prim.Native.Nat.{ℕ, ◌≤◌, ◌<◌}
use native.Mathlib.Omega.{arith}
use mathlib.Core.Path.{◌≡◌, sym, ap, ◌∙◌}
use mathlib.Core.Logic.{◌≢◌}
use mathlib.Core.List.{List}
use lib.Dec.{T, eqb, lt→ltb}
use Rattle.model.specs.Lists.{count}
use Rattle.model.specs.Refusal.{no_such_item}
use Rattle.model.specs.History.{History, main, main_items}
use Rattle.model.specs.Audit.{accepted}
use Rattle.model.specs.Report.{outside}
use Rattle.model.specs.Compare.{compare}
use Rattle.model.specs.Comparing.{ComparingAnswer, later_board, refused_board, compared, answer_later}
use Rattle.model.proofs.Tests.{tests, neither, or_left, or_right, eq→eqb, if_yes, if_no}
use Rattle.model.proofs.Unchecked.{length-history}
use Rattle.format.specs.Format.{format_of}
use Rattle.index.specs.Kept.{before}

-- ---- two boards that were accepted: the kept board's history, and the later board's first items

module _ (g : History) (later : List ℕ) (items mains number : ℕ) (all : mains ≡ count main (before later items)) where
  abbrev h : History
  h = before later items

  -- 19, with the later board's item count
  none-such : T (outside number (count main h)) → refused_board later_board no_such_item items ≡ answer_later g (accepted h) number
  unfolding answer_later
  none-such t =
      sym (if_yes (outside number (count main h)) _ _ t ∙ ap (refused_board later_board no_such_item) (length-history (format_of later) later items))

  pub none-zero : number ≡ 0 → refused_board later_board no_such_item items ≡ answer_later g (accepted h) number
  none-zero z = none-such (or_left (eqb number 0) _ (eq→eqb number 0 z))

  pub none-past : mains < number → refused_board later_board no_such_item items ≡ answer_later g (accepted h) number
  none-past l = none-such (or_right (eqb number 0) _ (lt→ltb (count main h) number (omega arith)))

  pub some-asked : number ≢ 0 → number ≤ mains → {a : ComparingAnswer} → a ≡ compared (compare (main_items g) (main_items h) number)
      → a ≡ answer_later g (accepted h) number
  unfolding answer_later
  some-asked n l e = e ∙ sym (if_no (outside number (count main h)) _ _ (simp neither (omega (arith, tests))))
