-- What the comparing entry answers and leaves: which board a refusal names, what the buffers hold, and demand 3 of two accepted boards.
-- Paper: "Comparing takes a kept board". Assumes nothing.
use Prim.Native.Nat.{ℕ, ◌≤◌}
use native.Mathlib.Omega.{arith}
use mathlib.Core.Path.{◌≡◌, refl, sym, ap, ap₂, subst, ◌∙◌}
use mathlib.Core.Logic.Iff
use mathlib.Core.Logic.{◌↔◌, ◌≢◌, ◌⊎◌, inl, inr, ⊎_elim}
use mathlib.Core.List.{List}
use lib.ListN.{length, length-map}
use Rattle.model.specs.Lists.{count}
use Rattle.model.specs.Format.{Format}
use Rattle.model.specs.Item.{unsigned}
use Rattle.model.specs.History.{History, main, main_items}
use Rattle.model.specs.Audit.{Outcome, unread, refused, accepted, audit}
use Rattle.model.specs.Report.{report_of, outside, Refuses, NoSuch}
use Rattle.model.specs.Sound.{Sound}
use Rattle.model.specs.Compare.{Comparison, apart, same, compare}
use Rattle.model.specs.Alone.{SameStart}
use Rattle.model.specs.Comparing.{Board, ComparingAnswer, kept_board, later_board, refused_board, compared, answer_later, comparing_answer, later_index_after, later_ballots_after, Answered}
use Rattle.model.proofs.Tests.{tests, by-if, if_no, if_yes, neither}
use Rattle.model.proofs.Lists.{count-keep}
use Rattle.model.proofs.Parts.{map-take}
use Rattle.model.proofs.Alone.{same_start}
use Rattle.model.proofs.Comparison.{OneHash, end_is, widths-met, comparing}
use Rattle.model.proofs.Acceptance.{not-unread, not-refused, accepted↔sound}
use Rattle.model.proofs.Above.{buffer-keeps}
use Rattle.model.proofs.Report.{tables-keep, Numbered, audit-numbered}

-- the comparison that an answer gives
abbrev comparison_of : ComparingAnswer → Comparison
comparison_of (refused_board c n k) = apart
comparison_of (compared x) = x

-- ---- two accepted boards, and a main number of the later one

module _ {f f' : Format} (one-hash : OneHash f f') {kb kv kr lb lv lr : List ℕ} {g h : History} (kept : Sound f kb kv kr g) (later : Sound f' lb lv lr h)
    (b : ℕ) (one : 1 ≤ b) (all : b ≤ count main h) where
  inside : b ≤ length (main_items h)
  inside = rw (count-keep main (λ e. e.item) h) all

  answer-is : comparing_answer (accepted g) (accepted h) b ≡ compared (compare (main_items g) (main_items h) b)
  unfolding comparing_answer answer_later
  answer-is = if_no (outside b (count main h)) _ _ (simp neither (omega (arith, tests)))

  -- where the answer is same, the counted ballots and the keys up to there are the same
  same_keys : compare (main_items g) (main_items h) b ≡ same → SameStart f f' g h b
  same_keys q =
      let s = (comparing kept one-hash later b one inside).same-is.0 q in
      same_start kept.passed later.passed b (rw (length-map (main_items h) unsigned) inside) (s.items ∙ map-take unsigned b (main_items h))

  pub answered : Answered f f' g h b (comparing_answer (accepted g) (accepted h) b)
  answered =
      let c = comparing kept one-hash later b one inside in
      let is : (x : Comparison) → (comparing_answer (accepted g) (accepted h) b ≡ compared x) ↔ (compare (main_items g) (main_items h) b ≡ x) =
      λ x. (λ e. ap comparison_of (sym answer-is ∙ e), λ e. answer-is ∙ ap compared e) in
      record {
        apart-is = rw (← end_is kept) (Iff.trans (is _) c.apart-is);
        same-is = Iff.trans (is _) c.same-is;
        same-pairs = Iff.trans (is _) c.same-pairs;
        same_start = λ e. same_keys ((is same).0 e);
        collision-is = λ x y. Iff.trans (is _) (c.collision-is x y);
        collides = λ e n. let (x, y, q) = c.collides (end_is kept ∙ e) n in (x, y, (is _).1 q);
      }

  -- addresses of different widths are apart
  pub apart-widths : f.address ≢ f'.address → comparing_answer (accepted g) (accepted h) b ≡ compared apart
  apart-widths other = answered.apart-is.1 (λ e. other (widths-met kept one-hash later b one inside e))

-- ---- which board a refusal names

-- a refusal is no comparison, and one of the later board none of the kept board
abbrev IsRefusal : ComparingAnswer → Type 0
IsRefusal (refused_board c n k) = Unit
IsRefusal (compared c) = ⊥

refuses : {c : Board} {n k : ℕ} {x : Comparison} → refused_board c n k ≡ compared x → ⊥
refuses e = subst IsRefusal e tt

abbrev IsLater : ComparingAnswer → Type 0
IsLater (refused_board kept_board n k) = ⊥
IsLater (refused_board later_board n k) = Unit
IsLater (compared c) = ⊥

other : {m i n k : ℕ} → refused_board later_board m i ≡ refused_board kept_board n k → ⊥
other e = subst IsLater e tt

-- the number and the items of a refusal
abbrev number_of : ComparingAnswer → ℕ
number_of (refused_board c n k) = n
number_of (compared c) = 0

abbrev items_of : ComparingAnswer → ℕ
items_of (refused_board c n k) = k
items_of (compared c) = 0

-- an accepted kept board is not named
not-kept : (g : History) (later : Outcome) (b n k : ℕ) → answer_later g later b ≡ refused_board kept_board n k → ⊥
unfolding answer_later
not-kept g (unread m) b n k e = other e
not-kept g (refused m i) b n k e = other e
not-kept g (accepted h) b n k e =
    by-if (λ r. r ≡ refused_board kept_board n k → ⊥) (outside b (count main h)) _ _ (λ t e. other e) (λ t e. refuses (sym e)) e

module _ (f : Format) (b n k : ℕ) where
  -- the outcome's own refusal
  named : {o : Outcome} {c d : Board} → 1 ≤ (report_of f o).number → refused_board c (report_of f o).number (report_of f o).items ≡ refused_board d n k
      → Refuses f o n k
  named some e =
      let same = ap number_of e in
      record { refusal = subst (1 ≤◌) same some; number = same; items = ap items_of e }

  kept-named : (kept later : Outcome) → Numbered kept → (comparing_answer kept later b ≡ refused_board kept_board n k) ↔ Refuses f kept n k
  unfolding comparing_answer report_of
  kept-named (unread m) later some = (named some, λ r. ap₂ (refused_board kept_board) r.number r.items)
  kept-named (refused m i) later some = (named some, λ r. ap₂ (refused_board kept_board) r.number r.items)
  kept-named (accepted g) later some = (λ e. absurd (not-kept g later b n k e), λ r. absurd (omega arith))

  -- with an accepted kept board, the later one is named with its own refusal, or with 19
  later-named : (g : History) (later : Outcome) → Numbered later
      → (answer_later g later b ≡ refused_board later_board n k) ↔ (Refuses f later n k ⊎ NoSuch (count main) later b n k)
  unfolding answer_later report_of
  later-named g (unread m) some = (
    λ e. inl (named some e),
    ⊎_elim (λ r. ap₂ (refused_board later_board) r.number r.items) (λ s. absurd (not-unread s.accepts)),
  )
  later-named g (refused m i) some = (
    λ e. inl (named some e),
    ⊎_elim (λ r. ap₂ (refused_board later_board) r.number r.items) (λ s. absurd (not-refused s.accepts)),
  )
  later-named g (accepted h) some = (
    by-if (λ r. r ≡ refused_board later_board n k → Refuses f (accepted h) n k ⊎ NoSuch (count main) (accepted h) b n k) (outside b (count main h)) _ _
        (λ t e. inr (record { history = h; accepts = refl; is_outside = t; number = sym (ap number_of e); items = sym (ap items_of e) }))
        (λ t e. absurd (refuses (sym e))),
    ⊎_elim (λ r. absurd (omega arith))
        (λ s. let same : s.history ≡ h = cc in if_yes (outside b (count main h)) _ _ (rw same at s.is_outside) ∙ cc),
  )

  later-named-after : (kept later : Outcome) → Numbered later
      → (comparing_answer kept later b ≡ refused_board later_board n k) ↔ ((g : History) × (kept ≡ accepted g) × (Refuses f later n k ⊎ NoSuch (count main) later b n k))
  unfolding comparing_answer
  later-named-after (unread m) later some = (λ e. absurd (other (sym e)), λ (g, e, r). absurd (not-unread e))
  later-named-after (refused m i) later some = (λ e. absurd (other (sym e)), λ (g, e, r). absurd (not-refused e))
  later-named-after (accepted g) later some = (λ e. (g, refl, (later-named g later some).0 e), λ (g', e, r). (later-named g later some).1 r)

-- ---- an answer other than a refusal: both boards are accepted, and b is a main number of the later one

inside-later : (g : History) (later : Outcome) (b : ℕ) (c : Comparison) → answer_later g later b ≡ compared c
    → (h : History) × (later ≡ accepted h) × (1 ≤ b) × (b ≤ count main h)
unfolding answer_later
inside-later g (unread n) b c e = absurd (refuses e)
inside-later g (refused n k) b c e = absurd (refuses e)
inside-later g (accepted h) b c e =
    by-if (λ r. r ≡ compared c → (i : History) × (accepted h ≡ accepted i) × (1 ≤ b) × (b ≤ count main i)) (outside b (count main h)) _ _
    (λ t q. absurd (refuses q))
    (λ t q. let n = simp neither at t in (h, refl, omega (arith, tests), omega (arith, tests)))
    e

pub compares-only : (kept later : Outcome) (b : ℕ) (c : Comparison) → comparing_answer kept later b ≡ compared c
    → (g : History) × (h : History) × (kept ≡ accepted g) × (later ≡ accepted h) × (1 ≤ b) × (b ≤ count main h)
unfolding comparing_answer
compares-only (unread n) later b c e = absurd (refuses e)
compares-only (refused n k) later b c e = absurd (refuses e)
compares-only (accepted g) later b c e = let (h, q, one, all) = inside-later g later b c e in (g, h, refl, q, one, all)

-- ---- the entry, from the words of both boards and what the four buffers held: the kept board's tables ki and kt, the later one's li and lt

module _ (f f' : Format) (kb kv kr lb lv lr ki kt li lt : List ℕ) (b : ℕ) where
  abbrev kept : Outcome
  kept = audit f kb kv kr (length ki) (length kt)

  abbrev later : Outcome
  later = audit f' lb lv lr (length li) (length lt)

  pub names-kept : (n k : ℕ) → (comparing_answer kept later b ≡ refused_board kept_board n k) ↔ Refuses f kept n k
  names-kept n k = kept-named f b n k kept later (audit-numbered f kb kv kr (length ki) (length kt))

  pub names-later : (n k : ℕ)
      → (comparing_answer kept later b ≡ refused_board later_board n k) ↔ ((g : History) × (kept ≡ accepted g) × (Refuses f' later n k ⊎ NoSuch (count main) later b n k))
  names-later n k = later-named-after f' b n k kept later (audit-numbered f' lb lv lr (length li) (length lt))

  pub later-tables-keep : (length (later_index_after kept later li) ≡ length li) × (length (later_ballots_after kept later lt) ≡ length lt)
  later-tables-keep =
      let (index, ballots) = tables-keep f' lb lv lr li lt in
      (buffer-keeps kept _ li (λ g e. index), buffer-keeps kept _ lt (λ g e. ballots))

  pub answered-audits : {g h : History} → OneHash f f' → kept ≡ accepted g → later ≡ accepted h → 1 ≤ b → b ≤ count main h
      → Answered f f' g h b (comparing_answer kept later b)
  answered-audits {g} {h} one-hash p q one all =
      rw (p, q) (answered one-hash ((accepted↔sound f kb kv kr _ _ g).0 p).0 ((accepted↔sound f' lb lv lr _ _ h).0 q).0 b one all)

  pub apart-audits : {g h : History} → f.address ≢ f'.address → kept ≡ accepted g → later ≡ accepted h → 1 ≤ b → b ≤ count main h
      → comparing_answer kept later b ≡ compared apart
  apart-audits {g} {h} other p q one all =
      let kept_sound = ((accepted↔sound f kb kv kr _ _ g).0 p).0 in
      let later_sound = ((accepted↔sound f' lb lv lr _ _ h).0 q).0 in
      rw (p, q) (apart-widths (λ e. absurd (other e)) kept_sound later_sound b one all other)
