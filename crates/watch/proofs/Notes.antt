-- A watcher's notes: where they are refused, and which note is the first that disagrees, for its reason. Paper: request (vi). Assumes nothing.
use Prim.Native.Nat.{ℕ, zero, suc, ◌+◌, ◌*◌, ◌^◌, ◌≤◌, ◌<◌}
use native.Mathlib.Nat.{mul_comm, mul-le-mul_right, suc-mul, not-suc-le-zero}
use native.Mathlib.Decide.{dec_lt}
use native.Mathlib.Omega.{arith}
use mathlib.Core.Path.{◌≡◌, refl, sym, ap, ap₂, subst, ◌∙◌}
use mathlib.Core.Logic.{◌↔◌, by_cases}
use mathlib.Core.Bool.{Bool, not}
use mathlib.Core.Option.{Option, none, some, some-injective}
use mathlib.Core.List.{List, [], ◌∷◌, ◌++◌}
use lib.ListN.{length, get_or}
use lib.Dec.{T, eqb, ltb, eqb→eq, nltb→le}
use Rattle.model.specs.Lists.{if◌then◌otherwise◌, part, any, count}
use Rattle.model.specs.Words.{pair, same_words}
use Rattle.model.specs.Refusal.{bad_notes}
use Rattle.model.specs.Format.{Format, Hashes, time_size}
use Rattle.model.specs.Traits.{format_of}
use Rattle.model.specs.Item.{Item, is_main, time}
use Rattle.model.specs.History.{History, Entry, entry, item_no, main, main_item, main_items, main_number}
use Rattle.model.specs.Audit.{Outcome, unread, refused, accepted, audit}
use Rattle.model.specs.Report.{report_of, Refuses}
use Rattle.watch.specs.Notes.{Note, note_limit, note_size, note_count, note_at, noted_by, noted_item, item_before, Disagreement, no_main_item, out_of_order, too_early, disagreement, Agreement, not_held, all_agree, disagrees, unless_wrong, held_from, held, is_bad_notes, notes_audit, agreement, Meant, Wrong, FirstWrong}
use Rattle.model.proofs.Tests.{tests, and-iff, same-iff, by-if, if_yes, if_no}
use Rattle.model.proofs.Lists.{every}
use Rattle.model.proofs.Parts.{length_part, part-add, part-two}
use Rattle.model.proofs.Numbers.{main-next, OnlyMain, MainAt, same_number, same-order, first-bound, first-at}
use Rattle.model.proofs.Acceptance.{unread-number}
use Rattle.model.proofs.Report.{Numbered, audit-numbered}
use Rattle.model.proofs.Above.{checked-none, by-checked, checked-passes, parts-count, parts-good, refuses-bad}
use Rattle.model.proofs.MainItems.{only, items_alone, is-main, item-alone, entry-only, among-mains, alone-is, alone-none}

-- ---- whole notes

pub note-words : (f : Format) (ns : List ℕ) (n k : ℕ) → length ns ≡ n * note_size f → k < n → let note = note_at f ns k in let at = k * note_size f in
    (part at (note_size f) ns ≡ get_or ns at 0 ∷ get_or ns (at + 1) 0 ∷ note.address)
    × (note.time ≡ get_or ns at 0 * 2 ^ 32 + get_or ns (at + 1) 0) × (length note.address ≡ f.address)
unfolding note_at pair
note-words f ns n k e l =
    let at = k * note_size f in
    let inside : at + note_size f ≤ length ns = omega (arith, mul-le-mul_right (note_size f) l, suc-mul k (note_size f)) in
    let same : at ≡ note_size f * k = mul_comm k (note_size f) in
    let two = part-two at ns 0 (omega arith) in (
      part-add at time_size f.address ns ∙ ap₂ ◌++◌ two (ap (λ (p : ℕ). part (p + time_size) f.address ns) same),
      ap pair (ap (λ (p : ℕ). part p time_size ns) (sym same) ∙ two),
      length_part (note_size f * k + time_size) f.address ns (omega arith),
    )

-- ---- what is wrong with a note, by main numbers

abbrev IsTooEarly : Disagreement → Type 0
IsTooEarly no_main_item = ⊥
IsTooEarly out_of_order = ⊥
IsTooEarly too_early = Unit

module _ (f : Format) (ns : List ℕ) (h : History) where
  abbrev is : List Item
  is = main_items h

  abbrev alone : History
  alone = items_alone is

  -- a note means a main item, or none
  only-main : (n : Note) → OnlyMain (noted_by n) h
  only-main n = every _ (λ e t. ((and-iff (main e) (same_words e.item.address n.address)).0 t).0) h

  -- the main numbers of the items that note k and the note before mean, or 0
  abbrev noted : ℕ → ℕ
  noted k = noted_item (note_at f ns k) alone

  abbrev before : ℕ → ℕ
  before = item_before f ns alone

  -- main item m has the address of note k
  abbrev Has : ℕ → ℕ → Type 0
  Has k m = (1 ≤ m) × (m ≤ length is) × ((main_item is m).address ≡ (note_at f ns k).address)

  told : (k m : ℕ) → ((1 ≤ m) × (m ≤ length is) × T (noted_by (note_at f ns k) (only (main_item is m)))) ↔ Has k m
  told k m =
      let i = main_item is m in
      let a = (note_at f ns k).address in
      let both = and-iff (is_main i) (same_words i.address a) in (
        λ (one, inside, t). (one, inside, (same-iff i.address a).0 (both.0 t).1),
        λ (one, inside, e). (one, inside, both.1 (is-main h m one inside, (same-iff i.address a).1 e)),
      )

  -- the item that note k means
  meant : (k m : ℕ) → Meant is (note_at f ns k).address m ↔ ((1 ≤ m) × (noted k ≡ m))
  unfolding noted_item
  meant k m =
      let found = alone-is (noted_by (note_at f ns k)) is (Has k) (told k) m in (
        λ w. (w.one, (found w.one).1 ((w.one, w.inside, w.there), λ j l (one, inside, e). w.first j one l e)),
        λ (one, e). let ((_, inside, there), other) = (found one).0 e in
            record { one = one; inside = inside; there = there; first = λ j low l same. other j l (low, omega arith, same) },
      )

  -- note k is wrong in one of the ways, in numbers
  abbrev Fact : ℕ → Disagreement → Type 0
  Fact k no_main_item = noted k ≡ 0
  Fact k out_of_order = (1 ≤ noted k) × (noted k < before k)
  Fact k too_early = (1 ≤ noted k) × ((note_at f ns k).time < time (item_no alone (noted k)))

  order_is : (k : ℕ) → Wrong f ns is k out_of_order ↔ Fact k out_of_order
  unfolding Wrong item_before
  order_is zero = (λ (j, l, m, e, u, w, less). absurd (omega arith), λ (one, l). absurd (not-suc-le-zero l))
  order_is (suc k) = (
    λ (j, l, m, e, u, w, less).
        let same : j ≡ k = omega arith in
        let (_, a) = (meant k l).0 (subst (λ (i : ℕ). Meant is (note_at f ns i).address l) same u) in
        let (one, b) = (meant (suc k) m).0 w in
        (omega arith, omega arith),
    λ (one, l). (k, noted k, noted (suc k), refl, (meant k (noted k)).1 (omega arith, refl), (meant (suc k) (noted (suc k))).1 (one, refl), l),
  )

  wrong-is : (k : ℕ) (d : Disagreement) → Wrong f ns is k d ↔ Fact k d
  unfolding Wrong noted_item
  wrong-is k no_main_item =
      let none = alone-none (noted_by (note_at f ns k)) is (Has k) (told k) in
      (λ w. none.1 (λ m (one, inside, e). w m one inside e), λ z m one inside e. none.0 z m (one, inside, e))
  wrong-is k out_of_order = order_is k
  wrong-is k too_early =
      let stands : (m : ℕ) → time (item_no alone m) ≡ time (main_item is m) = λ m. ap (λ (e : Entry). time e.item) (entry-only is m) in (
        λ (m, w, l). let (one, e) = (meant k m).0 w in
            rw e (one, subst ((note_at f ns k).time <◌) (sym (stands m)) l),
        λ (one, l). (noted k, (meant k (noted k)).1 (one, refl), subst ((note_at f ns k).time <◌) (stands (noted k)) l),
      )

  -- d is the first of the ways
  abbrev Way : ℕ → Disagreement → Type 0
  Way k d = Wrong f ns is k d × (d ≡ too_early → Wrong f ns is k out_of_order → ⊥)

  -- what is said of note k is right
  abbrev Right : ℕ → Option Disagreement → Type 0
  Right k none = (d : Disagreement) → Wrong f ns is k d → ⊥
  Right k (some d) = Way k d

  no_way : (k : ℕ) (d : Disagreement) → 1 ≤ noted k → before k ≤ noted k → time (item_no alone (noted k)) ≤ (note_at f ns k).time
      → Fact k d → ⊥
  no_way k no_main_item a b c x = omega arith
  no_way k out_of_order a b c x = omega arith
  no_way k too_early a b c x = omega arith

  right : (k : ℕ) → Right k (disagreement f ns alone k)
  unfolding disagreement
  right k =
      let i = noted k in
      let (t, u) : ℕ × ℕ = ((note_at f ns k).time, time (item_no alone i)) in
      by-if (Right k) (eqb i 0) _ _ (λ a. ((wrong-is k no_main_item).1 (eqb→eq i 0 a), λ e w. subst IsTooEarly (sym e) tt))
      λ a. by-if (Right k) (ltb i (before k)) _ _ (λ b. ((wrong-is k out_of_order).1 (omega (arith, tests)), λ e w. subst IsTooEarly (sym e) tt))
      λ b. by-if (Right k) (ltb t u) _ _
      (λ c. ((wrong-is k too_early).1 (omega (arith, tests)), λ e w. omega (arith, tests, (wrong-is k out_of_order).0 w)))
      (λ c d w. no_way k d (omega (arith, tests)) (nltb→le i (before k) b) (nltb→le t u c) ((wrong-is k d).0 w))

  -- so there is one first way
  given : (k : ℕ) (d : Disagreement) → Way k d → disagreement f ns alone k ≡ some d
  unfolding disagreement
  given k no_main_item (w, u) = let x = (wrong-is k no_main_item).0 w in if_yes (eqb (noted k) 0) _ _ (omega (arith, tests))
  given k out_of_order (w, u) =
      let x = (wrong-is k out_of_order).0 w in
      if_no (eqb (noted k) 0) _ _ (omega (arith, tests)) ∙ if_yes (ltb (noted k) (before k)) _ _ (omega (arith, tests))
  given k too_early (w, u) =
      let x = (wrong-is k too_early).0 w in
      let ordered : before k ≤ noted k =
      by_cases (dec_lt (noted k) (before k)) (λ l. absurd (u refl ((wrong-is k out_of_order).1 (omega arith)))) (λ n. omega arith) in
      if_no (eqb (noted k) 0) _ _ (omega (arith, tests)) ∙ if_no (ltb (noted k) (before k)) _ _ (omega (arith, tests))
      ∙ if_yes (ltb (note_at f ns k).time (time (item_no alone (noted k)))) _ _ (omega (arith, tests))

  -- ---- the notes, held against the main items alone

  noted-main : (n : Note) → MainAt h (noted_item n h)
  unfolding noted_item
  noted-main n = first-at (noted_by n) h (only-main n)

  -- the main items alone give its main number
  noted-alone : (n : Note) → main_number h (noted_item n h) ≡ noted_item n alone
  unfolding noted_item
  noted-alone n = among-mains (noted_by n) (λ e. refl) h (only-main n)

  same_item : (n : Note) → item_no h (noted_item n h) ≡ item_no alone (noted_item n alone)
  same_item n = sym (item-alone h (noted_item n h) (noted-main n)) ∙ ap (item_no alone) (noted-alone n)

  before-main : (k : ℕ) → MainAt h (item_before f ns h k)
  unfolding item_before
  before-main zero l = absurd (not-suc-le-zero l)
  before-main (suc k) l = noted-main (note_at f ns k) l

  before-alone : (k : ℕ) → main_number h (item_before f ns h k) ≡ item_before f ns alone k
  unfolding item_before count
  before-alone zero = refl
  before-alone (suc k) = noted-alone (note_at f ns k)

  -- by the three tests
  abbrev by_tests : (missing earlier early : Bool) → Option Disagreement
  by_tests missing earlier early = if missing then some no_main_item otherwise if earlier then some out_of_order otherwise if early then some too_early otherwise none

  -- so the same is wrong with each note
  disagreement-alone : (k : ℕ) → disagreement f ns h k ≡ disagreement f ns alone k
  unfolding disagreement count
  disagreement-alone k =
      let note = note_at f ns k in
      let (i, b, m) : ℕ × ℕ × ℕ = (noted_item note h, item_before f ns h k, noted_item note alone) in
      let t = noted-main note in
      let same : main_number h i ≡ m = noted-alone note in
      let missing : eqb i 0 ≡ eqb m 0 = sym (same_number h i 0 t (λ l. absurd (not-suc-le-zero l))) ∙ ap (λ (n : ℕ). eqb n 0) same in
      let earlier : ltb i b ≡ ltb m (item_before f ns alone k) = sym (same-order h i b t (before-main k)) ∙ ap₂ ltb same (before-alone k) in
      ap (λ (x : Bool). by_tests x (ltb i b) (ltb note.time (time (item_no h i)))) missing
      ∙ ap₂ (by_tests (eqb m 0)) earlier (ap (λ (x : Item). ltb note.time (time x)) (same_item note))

  held-alone : (n k : ℕ) → held_from f ns h k n ≡ held_from f ns alone k n
  unfolding held_from
  held-alone zero k = refl
  held-alone (suc n) k = ap₂ (unless_wrong k) (disagreement-alone k) (held-alone n (suc k))

  -- ---- of n notes

  -- none of the first n is wrong
  abbrev AllRight : ℕ → Type 0
  AllRight n = (k : ℕ) → k < n → (d : Disagreement) → Wrong f ns is k d → ⊥

  -- what an answer says of n notes
  abbrev Says : ℕ → Agreement → Type 0
  Says n not_held = ⊥
  Says n all_agree = AllRight n
  Says n (disagrees i d) = FirstWrong f ns is n i d

  unless-says : (n k : ℕ) (o : Option Disagreement) (next : Agreement) → k < n → AllRight k → Right k o → (AllRight (suc k) → Says n next)
      → Says n (unless_wrong k o next)
  unfolding unless_wrong
  unless-says n k none next l all r rest =
      rest (λ j m d w. by_cases (dec_lt j k) (λ less. all j less d w)
      (λ more. let same : j ≡ k = omega arith in r d (subst (λ (x : ℕ). Wrong f ns is x d) same w)))
  unless-says n k (some d) next l all r rest =
      record { note = k; number = refl; inside = l; wrong = r.0; way = r.1; before = all }

  held-says : (n k rest : ℕ) → k + rest ≡ n → AllRight k → Says n (held_from f ns alone k rest)
  unfolding held_from
  held-says n k zero e all = λ j l. all j (omega arith)
  held-says n k (suc rest) e all =
      unless-says n k (disagreement f ns alone k) _ (omega arith) all (right k) (λ more. held-says n (suc k) rest (omega arith) more)

  says : (n : ℕ) → note_count f ns ≡ n → Says n (held f ns h)
  says n e = subst (Says n) (sym (held-alone (note_count f ns) 0)) (held-says n 0 (note_count f ns) (omega arith) (λ j l. absurd (not-suc-le-zero l)))

  -- and no other answer says that
  named : (n i : ℕ) (d : Disagreement) (a : Agreement) → Says n a → FirstWrong f ns is n i d → a ≡ disagrees i d
  named n i d not_held s w = absurd s
  named n i d all_agree s w = absurd (s w.note w.inside d w.wrong)
  named n i d (disagrees j e) s w =
      let same : s.note ≡ w.note =
      by_cases (dec_lt s.note w.note) (λ l. absurd (w.before s.note l e s.wrong))
      (λ m. by_cases (dec_lt w.note s.note) (λ l. absurd (s.before w.note l d w.wrong)) (λ k. omega arith)) in
      ap₂ disagrees (s.number ∙ ap suc same ∙ sym w.number)
      (some-injective e d (sym (given w.note e (subst (λ (k : ℕ). Way k e) same (s.wrong, s.way))) ∙ given w.note d (w.wrong, w.way)))

  agrees : (n : ℕ) (a : Agreement) → Says n a → AllRight n → a ≡ all_agree
  agrees n not_held s all = absurd s
  agrees n all_agree s all = refl
  agrees n (disagrees i d) s all = absurd (all s.note s.inside d s.wrong)

pub notes-alone : (f : Format) (ns : List ℕ) (g h : History) → main_items g ≡ main_items h
    → agreement f ns (accepted g) ≡ agreement f ns (accepted h)
notes-alone f ns g h e =
    let n = note_count f ns in
    held-alone f ns g n 0 ∙ ap (λ (is : List Item). held_from f ns (items_alone is) 0 n) e ∙ sym (held-alone f ns h n 0)

-- ---- the entry

-- a refusal that has a number is reported as one
not-held-numbered : (f : Format) (ns : List ℕ) (o : Outcome) → Numbered o → (agreement f ns o ≡ not_held) ↔ ((n : ℕ) × (k : ℕ) × Refuses f o n k)
unfolding report_of
not-held-numbered f ns (unread n) one = (λ e. (n, 0, record { refusal = one; number = refl; items = refl }), λ r. refl)
not-held-numbered f ns (refused n k) one = (λ e. (n, k, record { refusal = one; number = refl; items = refl }), λ r. refl)
not-held-numbered f ns (accepted h) one = (
  λ e. absurd (subst (Says f ns h (note_count f ns)) e (says f ns h (note_count f ns) refl)),
  λ (n, k, r). absurd (omega (arith, r.refusal, r.number)),
)

module _ (s : Hashes) (ws vs roll ns : List ℕ) (index ballots : ℕ) where
  abbrev f : Format
  f = format_of s ws

  abbrev audited : Outcome
  audited = audit f ws vs roll index ballots

  abbrev holding : Outcome
  holding = notes_audit f ws vs roll ns index ballots

  abbrev AreNotes : ℕ → Type 0
  AreNotes n = (length ns ≡ n * note_size f) × (n ≤ note_limit)

  note-some : 0 < note_size f
  note-some = omega arith

  -- 23 is no number of the audit
  not-audited : audited ≡ unread bad_notes → ⊥
  unfolding any
  not-audited e = unread-number f ws vs roll index ballots bad_notes e

  pub bad-notes : (holding ≡ unread bad_notes) ↔ ((n : ℕ) → AreNotes n → ⊥)
  unfolding notes_audit
  bad-notes = refuses-bad (note_size f) note-some ns note_limit audited 22 [] (λ e. not-audited (sym (checked-none audited) ∙ e))

  pub notes-audited : (n : ℕ) → AreNotes n → holding ≡ audit f ws vs roll index ballots
  unfolding notes_audit
  notes-audited n are =
      checked-passes audited 22 (not (is_bad_notes f ns)) [] (parts-good (note_size f) note-some ns note_limit n are) ∙ checked-none audited

  pub not-held : (agreement f ns holding ≡ not_held) ↔ ((n : ℕ) × (k : ℕ) × Refuses f holding n k)
  unfolding notes_audit
  not-held =
      not-held-numbered f ns holding (by-checked audited 22 (not (is_bad_notes f ns)) [] Numbered
      (λ t. rw (checked-none audited) (audit-numbered f ws vs roll index ballots)) (λ t. omega arith))

  module _ (h : History) (a : holding ≡ accepted h) (n : ℕ) (are : AreNotes n) where
    abbrev Told : Agreement → Type 0
    Told = Says f ns h n

    holding-says : Told (agreement f ns holding)
    holding-says = subst (λ (o : Outcome). Told (agreement f ns o)) (sym a) (says f ns h n (parts-count (note_size f) note-some ns n are.0))

    pub first-note : (i : ℕ) (d : Disagreement) → (agreement f ns holding ≡ disagrees i d) ↔ FirstWrong f ns (main_items h) n i d
    first-note i d = (λ e. subst Told e holding-says, λ w. named f ns h n i d _ holding-says w)

    pub notes-agree : (agreement f ns holding ≡ all_agree) ↔ ((k : ℕ) → k < n → (d : Disagreement) → Wrong f ns (main_items h) k d → ⊥)
    notes-agree = (λ e. subst Told e holding-says, λ all. agrees f ns h n _ holding-says all)

module _ (s : Hashes) (ws vs roll ns : List ℕ) (index ballots : ℕ) (h : History) (a : notes_audit (format_of s ws) ws vs roll ns index ballots ≡ accepted h)
    (all : agreement (format_of s ws) ns (accepted h) ≡ all_agree) (k : ℕ) (inside : k < note_count (format_of s ws) ns) where
  abbrev note : Note
  note = note_at (format_of s ws) ns k

  abbrev item : ℕ
  item = noted_item note h

  pub noted-item : (1 ≤ item) × (item ≤ length h) × T (main (entry h item)) × Meant (main_items h) note.address (main_number h item)
      × (time (item_no h item) ≤ note.time)
  unfolding noted_item count
  noted-item =
      let f = format_of s ws in
      let right = subst (Says f ns h (note_count f ns)) all (says f ns h (note_count f ns) refl) k inside in
      let number : main_number h item ≡ noted f ns h k = noted-alone f ns h note in
      let at = noted-main f ns h note in
      let one : 1 ≤ item =
      by_cases (dec_lt 0 item) (λ l. l)
      (λ n. let z : item ≡ 0 = omega arith in absurd (right no_main_item ((wrong-is f ns h k no_main_item).1 (sym number ∙ ap (main_number h) z)))) in
      let some : 1 ≤ main_number h item = omega (arith, main-next h item (at one)) in
      let early : note.time < time (item_no h item) → ⊥ =
      λ l. right too_early ((wrong-is f ns h k too_early).1 (omega arith, subst (λ (i : Item). note.time < time i) (same_item f ns h note) l)) in (
        one,
        first-bound (noted_by note) h,
        at one,
        (meant f ns h k (main_number h item)).1 (some, sym number),
        by_cases (dec_lt note.time (time (item_no h item))) (λ l. absurd (early l)) (λ n. omega arith),
      )

-- no note means an earlier main item than the note before
pub noted-order : (s : Hashes) (ws vs roll ns : List ℕ) (index ballots : ℕ) (h : History) → notes_audit (format_of s ws) ws vs roll ns index ballots ≡ accepted h
    → agreement (format_of s ws) ns (accepted h) ≡ all_agree → (k : ℕ) → suc k < note_count (format_of s ws) ns
    → main_number h (noted_item (note_at (format_of s ws) ns k) h) ≤ main_number h (noted_item (note_at (format_of s ws) ns (suc k)) h)
unfolding Wrong
noted-order s ws vs roll ns index ballots h a all k inside =
    let f = format_of s ws in
    let right = subst (Says f ns h (note_count f ns)) all (says f ns h (note_count f ns) refl) (suc k) inside in
    let (_, _, _, one, _) = noted-item s ws vs roll ns index ballots h a all k (omega arith) in
    let (_, _, _, next, _) = noted-item s ws vs roll ns index ballots h a all (suc k) inside in
    let (m, n) : ℕ × ℕ = (main_number h (noted_item (note_at f ns k) h), main_number h (noted_item (note_at f ns (suc k)) h)) in
    by_cases (dec_lt n m) (λ l. absurd (right out_of_order (k, m, n, refl, one, next, l))) (λ l. omega arith)
