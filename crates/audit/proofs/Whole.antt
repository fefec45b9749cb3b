-- The audit around the loop: the sizes, a board with no items, and the tables of an outcome. Assumes nothing.
use Prim.Native.Nat.{ℕ, ◌≤◌, ◌<◌}
use native.Mathlib.Omega.{arith}
use mathlib.Core.Path.{◌≡◌, refl, sym, ap, ◌∙◌}
use mathlib.Core.Bool.{Bool, true, false, not}
use lib.Dec.{T}
use Rattle.std.proofs.Math.Logic.{∥∥₁_elim}
use Rattle.std.proofs.Props.{props}
use mathlib.Core.List.{List, []}
use lib.ListN.{length, replicate, length-replicate}
use borrow.Author.Tests.{lt-ltb, le-ltb}
use Rattle.model.specs.Lists.{if◌then◌otherwise◌}
use Rattle.model.specs.Refusal.{no_fault, too_large, short_table, empty_board, bad_roll}
use Rattle.model.specs.Roll.{GoodRoll, is_bad_roll, on_roll}
use Rattle.model.specs.Audit.{Outcome, unread, refused, accepted, audit, items, item_limit, word_limit, index_need, ballot_need, is_empty}
use Rattle.model.specs.Report as model
use Rattle.model.specs.Report.{report_of, table_after, index_after, ballots_after}
use Rattle.model.proofs.Acceptance.{refused-some}
use Rattle.model.proofs.Unchecked.{accepted-history}
use Rattle.refusal.specs.Number.{number_of}
use Rattle.chains.specs.Chain.{chain_words, chain}
use Rattle.format.specs.Format.{format_of}
use Rattle.index.specs.Kept.{before}
use Rattle.refusal.proofs.Laws.{number-some}
use Rattle.std.specs.Prelude.{Result, Ok, Err}
use Rattle.refusal.specs.declared.Refused.{Refused}
use Rattle.report.specs.declared.Accepted.{Accepted}
use Rattle.report.specs.Reported.{reported}
use Rattle.audit.specs.declared.Submission.{Submission}
use Rattle.audit.specs.Tables.{Sized, Zeros, Holds}

abbrev pub Report : Type 0
Report = Result Accepted Refused

if-not : (b : Bool) → T (not b) → b ≡ false
if-not true n = absurd n
if-not false n = refl

-- ---- no items yet

-- a chain table with no item is all zero
pub chain-none : (bucket : ℕ → ℕ) → replicate chain_words 0 ≡ chain bucket 0
unfolding chain
chain-none bucket = refl

-- ---- a roll that is not bad

pub good-roll : (words : List ℕ) {roll : List ℕ} → ∥ GoodRoll words ∥₁ → words ≡ roll → is_bad_roll roll ≡ false
good-roll words good same = rw same at (∥∥₁_elim good (hlevel props) (λ g. if-not (is_bad_roll words) g))

-- ---- the number of an answer

pub refused-number : (r : Report) {x : Refused} → r ≡ Err x → (reported r).number ≡ number_of x.refusal
refused-number r e = ap (λ (a : Report). (reported a).number) e

pub accepted-number : (r : Report) {a : Accepted} → r ≡ Ok a → (reported r).number ≡ no_fault
accepted-number r e = ap (λ (a : Report). (reported a).number) e

module _ (submission : Submission) (index ballots : List ℕ) where
  abbrev board : List ℕ
  board = submission.board.now

  abbrev verdicts : List ℕ
  verdicts = submission.verdicts.now

  abbrev roll : List ℕ
  roll = submission.roll.now

  abbrev pub outcome : Outcome
  outcome = audit (format_of board) board verdicts roll (length index) (length ballots)

  -- what the items give
  abbrev answer : Outcome
  answer = items (format_of board) (on_roll roll) board verdicts item_limit [] 0

  -- what `audit` ensures of its report and of the tables after it
  abbrev pub Audited : Report → List ℕ → List ℕ → Type 0
  Audited r i b = (reported r ≡ report_of (format_of board) outcome) × ((i ≡ index_after outcome index) × (b ≡ ballots_after outcome ballots))

  -- ---- 1 and 2

  pub audit-large : word_limit < length board → outcome ≡ unread too_large
  unfolding audit if◌then◌otherwise◌
  audit-large l = rw (lt-ltb _ _ l)

  pub audit-short-index : length board ≤ word_limit → length index < index_need → outcome ≡ unread short_table
  unfolding audit if◌then◌otherwise◌
  audit-short-index l i = rw (le-ltb _ _ l, lt-ltb _ _ i)

  pub audit-short-ballots : length board ≤ word_limit → index_need ≤ length index → length ballots < ballot_need → outcome ≡ unread short_table
  unfolding audit if◌then◌otherwise◌
  audit-short-ballots l i b = rw (le-ltb _ _ l, le-ltb _ _ i, lt-ltb _ _ b)

  -- they change no table
  pub audited-unread : (n : ℕ) → outcome ≡ unread n → (r : Report) → reported r ≡ report_of (format_of board) (refused n 0) → Audited r index ballots
  unfolding report_of table_after
  audited-unread n o r told = rw o (told, (refl, refl))

  -- ---- both tables cleared

  module _ (sized : Sized board index ballots) where
    pub cleared-zeros : (i b : List ℕ) → i ≡ replicate (length index) 0 → b ≡ replicate (length ballots) 0
        → Sized board i b × Zeros i × Zeros b
    cleared-zeros i b ei eb =
        let li : length i ≡ length index = rw (ei, length-replicate) in
        let lb : length b ≡ length ballots = rw (eb, length-replicate) in
        (record { few_words = sized.few_words; wide = rw li sized.wide; roomy = rw lb sized.roomy }, rw li ei, rw lb eb)

    -- ---- 20

    audit-roll : is_bad_roll roll ≡ true → outcome ≡ refused bad_roll 0
    unfolding audit if◌then◌otherwise◌
    audit-roll q = rw (le-ltb _ _ sized.few_words, le-ltb _ _ sized.wide, le-ltb _ _ sized.roomy, q)

    pub audited-roll : is_bad_roll roll ≡ true → (r : Report) → reported r ≡ report_of (format_of board) (refused bad_roll 0) → {i b : List ℕ}
        → i ≡ replicate (length index) 0 → b ≡ replicate (length ballots) 0 → Audited r i b
    unfolding table_after
    audited-roll q r told ei eb = rw (audit-roll q) (told, (ei, eb))

  module _ (sized : Sized board index ballots) (good : is_bad_roll roll ≡ false) where
    -- ---- 3

    audit-empty : is_empty board ≡ true → outcome ≡ refused empty_board 0
    unfolding audit if◌then◌otherwise◌
    audit-empty q = rw (le-ltb _ _ sized.few_words, le-ltb _ _ sized.wide, le-ltb _ _ sized.roomy, good, q)

    pub audited-empty : is_empty board ≡ true → (r : Report) → reported r ≡ report_of (format_of board) (refused empty_board 0) → {i b : List ℕ}
        → i ≡ replicate (length index) 0 → b ≡ replicate (length ballots) 0 → Audited r i b
    unfolding table_after
    audited-empty q r told ei eb = rw (audit-empty q) (told, (ei, eb))

    -- ---- the items

    audit-items : is_empty board ≡ false → outcome ≡ answer
    unfolding audit if◌then◌otherwise◌
    audit-items q = rw (le-ltb _ _ sized.few_words, le-ltb _ _ sized.wide, le-ltb _ _ sized.roomy, good, q)

    cleared : (o : Outcome) (i b : List ℕ) → Holds board o i b → (r : Report) → reported r ≡ report_of (format_of board) o
        → {x : Refused} → r ≡ Err x
        → (index_after o index ≡ replicate (length index) 0) × (ballots_after o ballots ≡ replicate (length ballots) 0)
    unfolding table_after report_of
    cleared (unread n) i b held r told a = absurd held
    cleared (refused n k) i b held r told a = (refl, refl)
    cleared (accepted h) i b held r told {x} a =
        let number = sym (refused-number r a) ∙ ap (λ (m : model.Report). m.number) told in
        absurd (omega (arith, number-some x.refusal))

    -- a refusal, and both tables are cleared
    pub audited-cleared : is_empty board ≡ false → (i b : List ℕ) → Holds board answer i b
        → (r : Report) → reported r ≡ report_of (format_of board) answer → {x : Refused} → r ≡ Err x
        → {i' b' : List ℕ} (m n : ℕ) → i' ≡ replicate m 0 → b' ≡ replicate n 0 → m ≡ length index → n ≡ length ballots → Audited r i' b'
    audited-cleared q i b held r told a m n ei eb em en =
        let (ci, cb) = cleared answer i b held r told a in
        rw (audit-items q) (told, (rw em at ei ∙ sym ci, rw en at eb ∙ sym cb))

    filled-tables : (o : Outcome) → outcome ≡ o → (i b : List ℕ) → Holds board o i b → (r : Report) → reported r ≡ report_of (format_of board) o
        → {a : Accepted} → r ≡ Ok a → length i ≡ length index → length b ≡ length ballots
        → (i ≡ index_after o index) × (b ≡ ballots_after o ballots)
    unfolding table_after report_of
    filled-tables (unread n) e i b held r told a li lb = absurd held
    filled-tables (refused n k) e i b held r told a li lb =
        let number = sym (accepted-number r a) ∙ ap (λ (m : model.Report). m.number) told in
        let some = refused-some (format_of board) board verdicts roll (length index) (length ballots) n k e in
        absurd (omega arith)
    filled-tables (accepted h) e i b held r told a li lb =
        let same : before board (length h) ≡ h = sym (accepted-history (format_of board) board verdicts roll (length index) (length ballots) h e) in
        (rw (same, li) at held.0.rows, rw (same, lb) at held.1.rows)

    -- acceptance, and the tables hold the rows
    pub audited-filled : is_empty board ≡ false → (i b : List ℕ) → Holds board answer i b
        → (r : Report) → reported r ≡ report_of (format_of board) answer → {a : Accepted} → r ≡ Ok a
        → length i ≡ length index → length b ≡ length ballots → Audited r i b
    audited-filled q i b held r told a li lb =
        let is = audit-items q in
        rw is (told, filled-tables answer is i b held r told a li lb)
