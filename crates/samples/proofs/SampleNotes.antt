-- A watcher's notes on sample elections under toy hashes, on all three curves: notes that agree, and for each way to disagree some that do; an address
-- on two main items; where notes are refused; and the cuts behind noted items, and what comparing says of one. So what is proved of notes is proved
-- of notes that agree and of notes that do not. Paper: request (vi). Assumes nothing.
use Prim.Native.Nat.{ℕ, ◌-◌, ◌*◌, ◌≤◌, ◌<◌}
use native.Mathlib.Omega.{arith}
use mathlib.Core.Path.{◌≡◌, refl, sym, ap, subst, subst₂, ◌∙◌}
use mathlib.Core.Bool.{Bool, true, ◌&&◌}
use mathlib.Core.List.{List, [], ◌∷◌, ◌++◌, map, cons-eq-cons}
use lib.ListN.{length, replicate, take, length-replicate}
use lib.Dec.{T, eqb, leb, lit≤}
use Rattle.model.specs.Lists.{if◌then◌otherwise◌, part, count, keep}
use Rattle.model.specs.Words.{kind_of, count_of, same_words, pair}
use Rattle.model.specs.Format.{Curve, secp256r1, secp384r1, secp521r1}
use Rattle.model.specs.Traits.{traits_known, traits_of, set_words, curve_of, format_of}
use Rattle.model.specs.Item.{item_length, item_at, hashed, words_of}
use Rattle.model.specs.History.{History, main_item, entry, first_from, end_address, entry_of, place_of, history}
use Rattle.model.specs.Roll.{electors, rising, is_bad_roll}
use Rattle.model.specs.Audit.{Outcome, unread, refused, accepted, first_unmet, audit, index_need, ballot_need}
use Rattle.model.specs.Above.{checked_first}
use Rattle.model.specs.Cut.{cut_board, cut_verdicts}
use Rattle.model.specs.Compare.{apart, same, collision, backwards, compare}
use Rattle.model.specs.Comparing.{ComparingAnswer, compared, answer_later, comparing_answer}
use Rattle.watch.specs.Notes.{note_size, note_count, note_at, noted_item, item_before, no_main_item, out_of_order, too_early, disagreement, Agreement, not_held, all_agree, disagrees, unless_wrong, held_from, held, notes_audit, agreement}
use Rattle.model.proofs.Tests.{and-iff, eqb-iff, leb-iff}
use Rattle.model.proofs.Lists.{Every}
use Rattle.watch.proofs.Notes.{bad-notes, notes-audited}
use Rattle.watch.proofs.NotedCuts.{noted-cut}
use Rattle.samples.proofs.SampleElection.{toys, toy, Signed, election, words_in, verdicts_in, board_of, board, verdicts, roll, own_answer}
use Rattle.samples.proofs.SampleCurves.{format_in, past, larger, larger-accepted}
use Rattle.samples.proofs.SampleReceipts.{twice, today, past_twice, both-casts, cuts}

-- ---- notes

-- at a time, of the address of the item with the time n; at the time 2 ^ 32, the high word first
abbrev note : Curve → (time n : ℕ) → List ℕ
note c time n = 0 ∷ time ∷ c.hash toys (n ∷ [])

abbrev late : Curve → ℕ → List ℕ
late c n = 1 ∷ 0 ∷ c.hash toys (n ∷ [])

unfoldable pub joined : List (List ℕ) → List ℕ
joined [] = []
joined (n ∷ ns) = n ++ joined ns

-- some notes, and what is to be said of them
pub record Case : Type 0 where
  pub notes : List (List ℕ)
  pub answer : Agreement

infix 30 ◌says◌
abbrev ◌says◌ : List (List ℕ) → Agreement → Case
ns says a = record { notes = ns; answer = a }

-- of the sample election, whose items 10, 11, 13 and 14 are hidden. Item n has the time n
unfoldable pub cases : Curve → List Case
cases c =
    ([] says all_agree)
    -- at the item's own time and later; one item twice, the second time with an earlier time; the last item
    ∷ ((note c 1 1 ∷ note c 12 9 ∷ note c 9 9 ∷ late c 18 ∷ note c 21 21 ∷ []) says all_agree)
    -- the address of no item; of a hidden item; with another last word
    ∷ ((note c 30 9 ∷ note c 30 22 ∷ note c 30 22 ∷ []) says disagrees 2 no_main_item)
    ∷ ((note c 30 9 ∷ note c 30 9 ∷ note c 30 10 ∷ []) says disagrees 3 no_main_item)
    ∷ (((0 ∷ 30 ∷ take (c.address - 1) (c.hash toys (18 ∷ [])) ++ (17 ∷ [])) ∷ []) says disagrees 1 no_main_item)
    -- a main item that is earlier than that of the note before, and later than one before that; one whose time is also too early
    ∷ ((note c 30 9 ∷ note c 30 18 ∷ note c 30 12 ∷ note c 0 1 ∷ []) says disagrees 3 out_of_order)
    ∷ ((note c 30 12 ∷ note c 8 9 ∷ []) says disagrees 2 out_of_order)
    -- a millisecond too early; of what is wrong behind it nothing is said
    ∷ ((note c 9 9 ∷ note c 17 18 ∷ note c 30 22 ∷ []) says disagrees 2 too_early)
    ∷ []

-- ---- what is answered

abbrev outcome : List Signed → List ℕ → Outcome
outcome ss ns = notes_audit (format_in ss) (board_of ss) (verdicts_in ss) roll ns index_need ballot_need

abbrev said : List Signed → List ℕ → Agreement
said ss ns = agreement (format_in ss) ns (outcome ss ns)

-- the audit's answer, where the board is accepted
held_by : (ss : List Signed) (ns : List ℕ) (h : History) (k : ℕ) → own_answer ss ≡ accepted h → length ns ≡ k * note_size (format_in ss) → k ≤ 1024
    → outcome ss ns ≡ accepted h
held_by ss ns h k a whole few = notes-audited toys (board_of ss) (verdicts_in ss) roll ns index_need ballot_need k (whole, few) ∙ a

module _ (ss : List Signed) where
  abbrev Holds : Case → Type 0
  Holds c = (said ss (joined c.notes) ≡ c.answer)

  -- whole notes, and not too many
  abbrev is_whole : Case → Bool
  is_whole c = eqb (length (joined c.notes)) (length c.notes * note_size (format_in ss)) && leb (length c.notes) 1024

  unfoldable whole : List Case → Bool
  whole [] = true
  whole (c ∷ cs) = is_whole c && whole cs

  all-by : (h : History) → own_answer ss ≡ accepted h → (cs : List Case) → T (whole cs)
      → map (λ (c : Case). held (format_in ss) (joined c.notes) h) cs ≡ map (λ (c : Case). c.answer) cs → Every Holds cs
  unfolding whole
  all-by h a [] w e = tt
  all-by h a (c ∷ cs) w e =
      let ns = joined c.notes in
      let n = length c.notes in
      let (first, others) = cons-eq-cons.0 e in
      let (this, rest) = (and-iff (is_whole c) (whole cs)).0 w in
      let (size, few) = (and-iff (eqb (length ns) (n * note_size (format_in ss))) (leb n 1024)).0 this in
      let by = held_by ss ns h n a ((eqb-iff (length ns) (n * note_size (format_in ss))).0 size) ((leb-iff n 1024).0 few) in
      (ap (agreement (format_in ss) ns) by ∙ first, all-by h a cs rest others)

-- ---- on today's curve, and on secp384r1

abbrev past_today : History
past_today = history toy board 21

today-whole : T (whole election (cases secp256r1))
unfolding traits_of set_words curve_of election words_in words_of hashed if◌then◌otherwise◌ joined cases whole
today-whole = tt

today-held : map (λ (c : Case). held (format_in election) (joined c.notes) past_today) (cases secp256r1) ≡ map (λ (c : Case). c.answer) (cases secp256r1)
unfolding traits_of set_words curve_of election words_in words_of hashed if◌then◌otherwise◌ part kind_of count_of same_words pair item_length item_at entry first_from entry_of place_of history note_at noted_item item_before disagreement unless_wrong held_from joined cases
today-held = refl

pub today-said : Every (Holds election) (cases secp256r1)
today-said = all-by election past_today today (cases secp256r1) today-whole today-held

larger-whole : T (whole larger (cases secp384r1))
unfolding traits_of traits_known set_words curve_of words_in words_of hashed if◌then◌otherwise◌ joined cases whole
larger-whole = tt

larger-held : map (λ (c : Case). held (format_in larger) (joined c.notes) (past larger)) (cases secp384r1) ≡ map (λ (c : Case). c.answer) (cases secp384r1)
unfolding traits_of traits_known set_words curve_of words_in words_of hashed if◌then◌otherwise◌ part kind_of count_of same_words pair item_length item_at entry first_from entry_of place_of history note_at noted_item item_before disagreement unless_wrong held_from joined cases
larger-held = refl

pub larger-said : Every (Holds larger) (cases secp384r1)
larger-said = all-by larger (past larger) larger-accepted (cases secp384r1) larger-whole larger-held

-- ---- on secp521r1: items 14 and 15 of the board with two casts have one address, and the first is meant. It is main item 13, since item 10 is hidden

unfoldable pub noted : List (List ℕ)
noted = let c = secp521r1 in note c 9 9 ∷ note c 14 14 ∷ note c 20 14 ∷ []

unfoldable pub twice_cases : List Case
twice_cases =
    let c = secp521r1 in
    (noted says all_agree)
    ∷ ((note c 13 14 ∷ []) says disagrees 1 too_early)
    ∷ ((note c 20 14 ∷ note c 20 13 ∷ []) says disagrees 2 out_of_order)
    ∷ ((note c 20 10 ∷ []) says disagrees 1 no_main_item)
    ∷ []

twice-whole : T (whole twice twice_cases)
unfolding twice traits_of traits_known set_words curve_of words_in words_of hashed if◌then◌otherwise◌ joined whole noted twice_cases
twice-whole = tt

twice-held : map (λ (c : Case). held (format_in twice) (joined c.notes) past_twice) twice_cases ≡ map (λ (c : Case). c.answer) twice_cases
unfolding twice traits_of traits_known set_words curve_of words_in words_of hashed if◌then◌otherwise◌ part kind_of count_of same_words pair item_length item_at entry first_from entry_of place_of history note_at noted_item item_before disagreement unless_wrong held_from joined noted twice_cases
twice-held = refl

pub twice-said : Every (Holds twice) twice_cases
twice-said = all-by twice past_twice both-casts twice_cases twice-whole twice-held

-- ---- the cut behind a noted item is the board of the items up to there, accepted, and ends with the noted address

-- what is computed of n notes: they agree, and note k, from 0 on, has this address and means item m, behind which the board is cut
record Means (ss : List Signed) (h : History) (ns : List ℕ) (n k m : ℕ) (address : List ℕ) : Type 0 where
  whole : length ns ≡ n * note_size (format_in ss)
  number : note_count (format_in ss) ns ≡ n
  agree : held (format_in ss) ns h ≡ all_agree
  item : noted_item (note_at (format_in ss) ns k) h ≡ m
  there : (note_at (format_in ss) ns k).address ≡ address
  words : cut_board (format_in ss) (board_of ss) m ≡ board_of (take m ss)
  signed : cut_verdicts (verdicts_in ss) m ≡ verdicts_in (take m ss)

module _ (ss : List Signed) (h : History) (a : own_answer ss ≡ accepted h) (ns : List ℕ) (n k m : ℕ) (address : List ℕ) (p : Means ss h ns n k m address)
    (few : n ≤ 1024) (inside : k < n) where
  cut_by : (own_answer (take m ss) ≡ accepted (take m h)) × (end_address (format_in (take m ss)) (take m h) ≡ address)
  cut_by =
      let f = format_in ss in
      let by = held_by ss ns h n a p.whole few in
      let (_, accepts, end) = noted-cut toys (board_of ss) (verdicts_in ss) roll ns index_need ballot_need h by p.agree k
      (subst (k <◌) (sym p.number) inside) index_need ballot_need (lit≤ tt) (lit≤ tt) in
      let Cut : List ℕ → List ℕ → ℕ → Type 0 = λ us vs j.
      (audit (format_of toys us) us vs roll index_need ballot_need ≡ accepted (take j h)) × (end_address (format_of toys us) (take j h) ≡ address) in
      subst₂ (λ us vs. Cut us vs m) p.words p.signed
      (subst (λ (j : ℕ). Cut (cut_board f (board_of ss) j) (cut_verdicts (verdicts_in ss) j) j) p.item (accepts, end ∙ p.there))

-- of the sample election, behind its cast
abbrev watched : Curve → List ℕ
watched c = joined (note c 9 9 ∷ note c 18 18 ∷ note c 30 21 ∷ [])

today-means : Means election past_today (watched secp256r1) 3 1 18 (replicate 8 18)
unfolding traits_of set_words curve_of election words_in verdicts_in words_of hashed if◌then◌otherwise◌ part kind_of count_of same_words pair item_length item_at entry first_from entry_of place_of history cut_board note_at noted_item item_before disagreement unless_wrong held_from joined
today-means = record { whole = refl; number = refl; agree = refl; item = refl; there = refl; words = refl; signed = refl }

pub today-cut : (own_answer (take 18 election) ≡ accepted (take 18 (history toy board 21)))
    × (end_address (format_in (take 18 election)) (take 18 (history toy board 21)) ≡ replicate 8 18)
today-cut = cut_by election past_today today (watched secp256r1) 3 1 18 _ today-means (lit≤ tt) (lit≤ tt)

larger-means : Means larger (past larger) (watched secp384r1) 3 1 18 (replicate 12 (384 * 18))
unfolding traits_of traits_known set_words curve_of words_in verdicts_in words_of hashed if◌then◌otherwise◌ part kind_of count_of same_words pair item_length item_at entry first_from entry_of place_of history cut_board note_at noted_item item_before disagreement unless_wrong held_from joined
larger-means = record { whole = refl; number = refl; agree = refl; item = refl; there = refl; words = refl; signed = refl }

pub larger-cut : (own_answer (take 18 larger) ≡ accepted (take 18 (past larger)))
    × (end_address (format_in (take 18 larger)) (take 18 (past larger)) ≡ replicate 12 (384 * 18))
larger-cut = cut_by larger (past larger) larger-accepted (watched secp384r1) 3 1 18 _ larger-means (lit≤ tt) (lit≤ tt)

-- behind the first of two casts with one address: the second note, of three
twice-means : Means twice past_twice (joined noted) 3 1 14 (replicate 16 (512 * 14))
unfolding twice traits_of traits_known set_words curve_of words_in verdicts_in words_of hashed if◌then◌otherwise◌ part kind_of count_of same_words pair item_length item_at entry first_from entry_of place_of history note_at noted_item item_before disagreement unless_wrong held_from joined noted
twice-means = record { whole = refl; number = refl; agree = refl; item = refl; there = refl; words = cuts.2; signed = cuts.3 }

pub twice_cut : (own_answer (take 14 twice) ≡ accepted (take 14 past_twice))
    × (end_address (format_in (take 14 twice)) (take 14 past_twice) ≡ replicate 16 (512 * 14))
twice_cut = cut_by twice past_twice both-casts (joined noted) 3 1 14 _ twice-means (lit≤ tt) (lit≤ tt)

-- ---- that cut, compared as the kept board with the whole one: it is the same up to main item 13; the noted address stands at main item 14, too,
-- where the hashed words differ; and it does not stand at main item 12

compared-by : let answer : ℕ → ComparingAnswer = comparing_answer (accepted (take 14 past_twice)) (accepted past_twice) in
    (answer 13 ≡ compared same) × (answer 14 ≡ compared (collision 13 14)) × (answer 12 ≡ compared apart)
unfolding twice traits_of traits_known set_words curve_of words_in words_of hashed if◌then◌otherwise◌ part count keep kind_of count_of same_words item_length item_at main_item entry_of place_of history backwards compare answer_later comparing_answer
compared-by = (refl, refl, refl)

pub cut-compared : let answer : ℕ → ComparingAnswer = comparing_answer (own_answer (take 14 twice)) (own_answer twice) in
    (answer 13 ≡ compared same) × (answer 14 ≡ compared (collision 13 14)) × (answer 12 ≡ compared apart)
cut-compared =
    let answer : ℕ → Outcome → Outcome → ComparingAnswer = λ b kept later. comparing_answer kept later b in
    subst₂ (λ (kept later : Outcome). (answer 13 kept later ≡ compared same) × (answer 14 kept later ≡ compared (collision 13 14))
    × (answer 12 kept later ≡ compared apart)) (sym twice_cut.0) (sym both-casts) compared-by

-- ---- where they are refused

-- 23: 9 words and 11 are no notes of 10, 10 none of the 14 words of secp384r1, and 14 none of 10; also before 2 and 3, with no table and no board
pub bad-widths : (outcome election (replicate 9 99) ≡ unread 23) × (outcome election (replicate 11 99) ≡ unread 23)
    × (outcome larger (replicate 10 99) ≡ unread 23) × (outcome election (replicate 14 99) ≡ unread 23)
    × (notes_audit (format_of toys []) [] [] [] (99 ∷ []) 0 0 ≡ unread 23)
unfolding traits_of traits_known set_words curve_of election words_in words_of hashed if◌then◌otherwise◌ first_unmet checked_first notes_audit
bad-widths = (refl, refl, refl, refl, refl)

-- then none is held against the board
pub bad-held : said election (replicate 9 99) ≡ not_held
bad-held = ap (agreement (format_in election) (replicate 9 99)) bad-widths.0

-- nor where the audit refuses: no words are 3
pub no-board : let ns = note secp256r1 18 18 in let o = notes_audit (format_of toys []) [] [] [] ns index_need ballot_need in
    (o ≡ refused 3 0) × (agreement (format_of toys []) ns o ≡ not_held)
unfolding traits_of set_words curve_of if◌then◌otherwise◌ electors rising is_bad_roll first_unmet audit checked_first notes_audit
no-board = (refl, refl)

today-size : note_size (format_in election) ≡ 10
unfolding traits_of set_words curve_of election words_in words_of hashed if◌then◌otherwise◌
today-size = refl

many : (n : ℕ) → 10250 ≡ n * 10 → n ≤ 1024 → ⊥
many n e few = omega arith

-- 1,025 notes are too many, 1,024 are not
pub limits : (outcome election (replicate 10250 0) ≡ unread 23) × (outcome election (replicate 10240 0) ≡ accepted (history toy board 21))
limits = (
  (bad-notes toys board verdicts roll (replicate 10250 0) index_need ballot_need).1
      (λ n (whole, few). many n (sym (length-replicate {A = ℕ} 10250 0) ∙ whole ∙ ap (n *◌) today-size) few),
  held_by election (replicate 10240 0) past_today 1024 today (length-replicate {A = ℕ} 10240 0 ∙ ap (1024 *◌) (sym today-size)) (lit≤ tt),
)
