-- The first k items pass, by the reasons for a refusal, exactly where they are a beginning of the words that meets the rules of a sound board.
-- Paper: "Refusals and their order"; demand 2. Assumes nothing.
use Prim.Native.Nat.{ℕ, zero, suc, ◌+◌, ◌*◌, ◌≤◌, ◌<◌, zero-le}
use native.Mathlib.Nat.{not-suc-le-zero}
use native.Mathlib.Decide.{dec_le}
use native.Mathlib.Omega.{arith}
use mathlib.Core.Path.{◌≡◌, refl, sym, ap, subst, subst₂, ◌∙◌}
use mathlib.Core.Logic.{◌↔◌, by_cases}
use mathlib.Core.Bool.{not}
use mathlib.Core.Option.{Option, none, some}
use mathlib.Core.List.{List, [], ◌∷◌, ◌++◌, append_assoc}
use lib.ListN.{length, get_or, take, drop, take-append-drop, length-append}
use lib.Seq.{drop_at, length-take-le}
use lib.Dec.{T, leb, ltb}
use Rattle.model.specs.Lists.{part}
use Rattle.model.specs.Words.{count_of, closing_kind}
use Rattle.model.specs.Refusal.{no_fault}
use Rattle.model.specs.Format.{Format, verdict_size}
use Rattle.model.specs.Item.{Item, item_at, item_length, behind, words_of}
use Rattle.model.specs.Types.{Row, row_of, fits}
use Rattle.model.specs.History.{History, entry_of, place_of, history}
use Rattle.model.specs.Roll.{Eligibility}
use Rattle.model.specs.Audit.{Check, checks, head_fault, fault_in, fault, item_limit, verdict_of}
use Rattle.model.specs.Sound.{Meets, Passed, next, Beginning}
use Rattle.model.specs.Reasons.{NoneOf, HeadAt, item_reasons, PassedFirst}
use Rattle.model.proofs.Tests.{tests, ne→neqb, not-not, by-if}
use Rattle.model.proofs.Parts.{cut, take_part}
use Rattle.model.proofs.Parsing.{length-words, item-here, shaped-at, words-at}
use Rattle.model.proofs.Table.{no-closing}
use Rattle.model.proofs.Entries.{orderly}
use Rattle.model.proofs.Keys.{verdict-words, length-verdicts}
use Rattle.model.proofs.Checks.{numbers-map, by-checks, meets}
use Rattle.model.proofs.Unchecked.{length-history, passed-history}
use Rattle.model.proofs.Reasons.{fault-number, few, some_number}
use Rattle.model.proofs.FirstReason.{by_first, none_number, first-number}
use Rattle.model.proofs.SoundAccepted.{item-step}

module _ (f : Format) (on : Eligibility) (ws vs : List ℕ) (k : ℕ) where
  abbrev here : ℕ
  here = place_of f ws k

  -- item k + 1 is whole, and meets the rules after the first k
  abbrev Meeting : Type 0
  Meeting = (behind f ws here ≤ length ws) × Meets f on (history f ws k) (verdict_of vs (history f ws k)) (item_at f ws here)

  -- it does where it has no fault
  pub fault-meets : (row : Option Row) → row_of f (get_or ws here 0) ≡ row → fault_in f on ws vs row (history f ws k) here ≡ no_fault → Meeting
  unfolding fault_in head_fault item_at checks
  fault-meets none q e = absurd (omega arith)
  fault-meets (some r) q e =
      let Goal : ℕ → Type 0 = λ n. n ≡ no_fault → Meeting in
      let fitting = fits r.counts (count_of (get_or ws here 0)) in
      let rules : List Check = checks f on (history f ws k) (verdict_of vs (history f ws k)) r (item_at f ws here) in
      by-if Goal (not fitting) _ _ (λ t d. absurd (omega arith))
      (λ t. by-if Goal (ltb (length ws) (behind f ws here)) _ _ (λ u d. absurd (omega arith))
      λ u.
      let fit : behind f ws here ≤ length ws = omega (arith, tests) in
      by-checks Goal rules
      (λ met d. (fit, meets f on _ _ (item_at f ws here) (record { row = r; found = q }) ((not-not fitting).0 t) (shaped-at f ws here fit) met))
      (numbers-map (λ n. T (leb 1 n)) Goal (λ n l d. absurd (subst (λ (m : ℕ). T (leb 1 m)) d l)) rules
      (tt, (tt, (tt, (tt, (tt, (tt, (tt, (tt, (tt, (tt, (tt, tt)))))))))))))
      e

  -- so where no reason applies to it, and only there
  none-meets : NoneOf (item_reasons f on ws vs k) → Meeting
  none-meets u = fault-meets (row_of f (get_or ws here 0)) refl (fault-number f on ws vs k (few f on ws vs k u) ∙ none_number _ u)

  meets-none : k < item_limit → length (verdict_of vs (history f ws k)) ≡ verdict_size → Meeting → NoneOf (item_reasons f on ws vs k)
  unfolding item_at
  meets-none small long (fit, m) =
      let passes : fault f on ws vs (history f ws k) here ≡ no_fault = rw m.listed.found (item-step f on ws vs (history f ws k) here m fit long) in
      by_first (item_reasons f on ws vs k) (λ u. u)
      (λ n s. absurd (some_number f on ws vs k s (sym (first-number s) ∙ sym (fault-number f on ws vs k small) ∙ passes)))

  -- the first k items are in the words, and meet the rules
  abbrev Passing : Type 0
  Passing = (here ≤ length ws) × Passed f on (take here ws) (take (verdict_size * k) vs) (history f ws k)

passing : (f : Format) (on : Eligibility) (ws vs : List ℕ) (k : ℕ) → PassedFirst f on ws vs k → Passing f on ws vs k
unfolding place_of history
passing f on ws vs zero all = (zero-le, Passed.none)
passing f on ws vs (suc k) all =
    let p = place_of f ws k in
    let (within, before) = passing f on ws vs k (λ j l. all j (omega arith)) in
    let (fit, m) = none-meets f on ws vs k (all k (omega arith)).1 in
    let place : length (take p ws) ≡ p = length-take-le p ws within in
    let verdicts : verdict_size * suc k ≡ verdict_size * k + verdict_size = omega arith in
    let passed = rw place at (next _ _ _ _ _ before (rw (length-history f ws k) at m)) in
    (fit, rw (verdicts, take_part p _ ws, take_part _ verdict_size vs, ← words-at f ws p fit) passed)

-- an item that meets the rules behind those that were passed
module _ {f : Format} {on : Eligibility} {u vu v : List ℕ} {h : History} {i : Item} (p : Passed f on u vu h) (m : Meets f on h v i) (rest vrest : List ℕ) where
  abbrev words : List ℕ
  words = u ++ (words_of i ++ rest)

  abbrev verdicts : List ℕ
  verdicts = vu ++ (v ++ vrest)

  next-passes : length h < item_limit → HeadAt f words (length h) × NoneOf (item_reasons f on words verdicts (length h))
  unfolding item_at item_length
  next-passes small =
      let (same, place) = passed-history p (words_of i ++ rest) in
      let nine : length v ≡ verdict_size = verdict-words m (orderly p) in
      let read : item_at f words (length u) ≡ i = item-here f u i rest m.shaped in
      let head : get_or words (length u) 0 ≡ i.head = ap (λ (j : Item). j.head) read in
      let verdict : part (verdict_size * length h) verdict_size verdicts ≡ v = (cut _ verdicts (drop_at vu (v ++ vrest) _ (length-verdicts p)) nine).0 in
      let whole : length u + item_length f (count_of i.head) ≤ length words = simp length-append (omega (arith, length-words f i m.shaped)) in
      let meeting : Meeting f on words verdicts (length h) = rw (← same, place, read, verdict, head) (whole, m) in
      let starts : HeadAt f words (length h) = (rw place (omega arith), rw (place, head) (ne→neqb _ closing_kind (no-closing m.listed))) in
      (starts, meets-none f on words verdicts (length h) small (rw (← same, verdict) nine) meeting)

-- items that meet the rules pass, whatever stands behind them
passed_first : {f : Format} {on : Eligibility} {u vu : List ℕ} {h : History} → Passed f on u vu h → (rest vrest : List ℕ) → length h ≤ item_limit
    → PassedFirst f on (u ++ rest) (vu ++ vrest) (length h)
passed_first Passed.none rest vrest few j l = absurd (not-suc-le-zero l)
passed_first {f} {on} (next u vu h v i p m) rest vrest few j l =
    let size = length-append h (entry_of h (length u) i ∷ []) in
    let small = subst (◌≤ item_limit) size few in
    let less = subst (j <◌) size l in
    subst₂ (λ (us ts : List ℕ). HeadAt f us j × NoneOf (item_reasons f on us ts j)) (sym (append_assoc u (words_of i) rest)) (sym (append_assoc vu v vrest))
    (by_cases (dec_le (suc j) (length h))
    (λ n. passed_first p (words_of i ++ rest) (v ++ vrest) (omega arith) j n)
    (λ n. let same : j ≡ length h = omega arith in rw same (next-passes p m rest vrest (omega arith))))

pub first-items : (f : Format) (on : Eligibility) (ws vs : List ℕ) (k : ℕ) → k ≤ item_limit → PassedFirst f on ws vs k ↔ Beginning f on ws vs (history f ws k)
first-items f on ws vs k few = (
  λ all. record {
    words = take (place_of f ws k) ws;
    words_left = drop (place_of f ws k) ws;
    verdicts = take (verdict_size * k) vs;
    verdicts_left = drop (verdict_size * k) vs;
    of_words = sym (take-append-drop (place_of f ws k) ws);
    of_verdicts = sym (take-append-drop (verdict_size * k) vs);
    passed = (passing f on ws vs k all).1;
  },
  λ b.
      let size = length-history f ws k in
      rw (b.of_words, b.of_verdicts) (rw size at (passed_first b.passed b.words_left b.verdicts_left (omega arith))),
)
