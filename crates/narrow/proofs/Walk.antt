-- Item by item, in any format: the items that passed, an item that passes next, and a genesis behind them. What is said on the pages Audit and
-- OneCurve of audits of before stands on this. Assumes nothing.
use Prim.Native.Nat.{ℕ, suc, ◌≤◌}
use native.Mathlib.Omega.{arith}
use mathlib.Core.Path.{◌≡◌, ◌∙◌}
use mathlib.Core.Bool.{not}
use mathlib.Core.Option.{Option, none, some}
use mathlib.Core.List.{List, [], ◌∷◌, ◌++◌}
use lib.ListN.{length, get_or, length-append}
use lib.Dec.{T, ltb}
use borrow.Author.Tests.{eq-eqb}
use Rattle.model.specs.Lists.{any}
use Rattle.model.specs.Words.{kind_of, code_of, count_of}
use Rattle.model.specs.Refusal.{no_fault}
use Rattle.model.specs.Format.{Format}
use Rattle.model.specs.Traits.{traits_head}
use Rattle.model.specs.Item.{Item, item_at, behind, code, words_of}
use Rattle.model.specs.Types.{Row, row_of, fits}
use Rattle.model.specs.History.{History, typed, grown}
use Rattle.model.specs.Only.{on_board_ok, only_ok}
use Rattle.model.specs.Roll.{Eligibility}
use Rattle.model.specs.Audit.{checks, verdict_of, head_fault, fault_in}
use Rattle.model.specs.Sound.{Meets, Passed, next}
use Rattle.model.proofs.Tests.{facts, tests, is_true, not-not, by-if}
use Rattle.model.proofs.Rules.{only-rules}
use Rattle.model.proofs.Checks.{by-checks, meets}
use Rattle.model.proofs.Parsing.{length-words, shaped-at}
use Rattle.model.proofs.Entries.{Opens}

-- a head is its three fields
pub head-is : (w : ℕ) → kind_of w ≡ 1 → code_of w ≡ 1 → count_of w ≡ 18 → w ≡ traits_head
unfolding kind_of code_of count_of
head-is w k c n = omega arith

-- behind another item a genesis is a second one
pub second : (h : History) (i : Item) → Opens h → 1 ≤ length h → code i ≡ 1 → T (only_ok h i) → ⊥
unfolding on_board_ok any
second [] i o l c t = absurd (omega arith)
second (e ∷ es) i o l c t =
    let one = simp facts at (only-rules t).on_board in
    one (rw (eq-eqb (code i) 1 c) tt) (rw (c, is_true (typed 1 e) o) tt)

-- the items of h passed, and end at place p
pub record At (f : Format) (on : Eligibility) (h : History) (p : ℕ) : Type 0 where
  pub words : List ℕ
  pub verdicts : List ℕ
  pub passed : Passed f on words verdicts h
  pub place : length words ≡ p

module _ (f : Format) (on : Eligibility) (ws vs : List ℕ) where
  -- an item that meets the rules leads to the place behind it
  onward : (h : History) (p : ℕ) → At f on h p → behind f ws p ≤ length ws → Meets f on h (verdict_of vs h) (item_at f ws p)
      → At f on (grown f ws h p) (behind f ws p)
  unfolding item_at
  onward h p a fit m =
      let i = item_at f ws p in
      record {
        words = a.words ++ words_of i;
        verdicts = a.verdicts ++ verdict_of vs h;
        passed = rw a.place at (next a.words a.verdicts h _ i a.passed m);
        place = length-append a.words (words_of i) ∙ rw (a.place, length-words f i (shaped-at f ws p fit));
      }

  -- as does one without a fault
  pub faultless : (r : Option Row) (h : History) (p : ℕ) → At f on h p → row_of f (get_or ws p 0) ≡ r → fault_in f on ws vs r h p ≡ no_fault
      → At f on (grown f ws h p) (behind f ws p)
  unfolding fault_in head_fault item_at checks
  faultless none h p a listed = λ e. absurd (omega arith)
  faultless (some r) h p a listed =
      let Goal : ℕ → Type 0 = λ n. n ≡ no_fault → At f on (grown f ws h p) (behind f ws p) in
      let no : (n : ℕ) → Goal (suc n) = λ n e. absurd (omega arith) in
      let fitting = fits r.counts (count_of (get_or ws p 0)) in
      let i = item_at f ws p in
      let v = verdict_of vs h in
      by-if Goal (not fitting) _ _ (λ t. no 5)
      λ t. by-if Goal (ltb (length ws) (behind f ws p)) _ _ (λ u. no 3)
      λ u.
      let fit : behind f ws p ≤ length ws = omega (arith, tests) in
      by-checks Goal (checks f on h v r i)
      (λ met e. onward h p a fit (meets f on h v i (record { row = r; found = listed }) ((not-not fitting).0 t) (shaped-at f ws p fit) met))
      (no 6, (no 7, (no 8, (no 9, (no 10, (no 11, (no 12, (no 20, (no 13, (no 14, (no 15, tt)))))))))))
