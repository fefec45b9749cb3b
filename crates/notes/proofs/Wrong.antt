-- What is wrong with a note, test by test, and the first note that disagrees. Assumes nothing.
use Prim.Native.Nat.{ℕ, suc, ◌+◌, ◌-◌, ◌≤◌, ◌<◌}
use native.Mathlib.Nat.{sub-zero}
use native.Mathlib.Numerals.{add-one}
use native.Mathlib.Omega.{arith}
use mathlib.Core.Path.{◌≡◌, refl, ◌∙◌}
use mathlib.Core.Logic.{◌≢◌}
use mathlib.Core.Option.{Option, none, some}
use mathlib.Core.List.{List}
use borrow.Author.Tests.{eq-eqb, ne_eqb, lt-ltb, le-ltb}
use Rattle.model.specs.Lists.{if◌then◌otherwise◌}
use Rattle.model.specs.Format.{Format}
use Rattle.model.specs.Item.{time}
use Rattle.model.specs.History.{History, item_no}
use Rattle.watch.specs.Notes.{note_count, note_at, noted_item, item_before, no_main_item, out_of_order, too_early, Disagreement, disagreement, all_agree, disagrees, unless_wrong, held_from, held}

module _ (f : Format) (ns : List ℕ) (h : History) (k : ℕ) where
  -- ---- one note: its item and that of the note before are known

  module _ {item : ℕ} (e : item ≡ noted_item (note_at f ns k) h) where
    pub no_item : item ≡ 0 → some no_main_item ≡ disagreement f ns h k
    unfolding disagreement if◌then◌otherwise◌
    no_item z = rw (← e, eq-eqb item 0 z)

    module _ (n : item ≢ 0) {last : ℕ} (b : last ≡ item_before f ns h k) where
      pub in-disorder : item < last → some out_of_order ≡ disagreement f ns h k
      unfolding disagreement if◌then◌otherwise◌
      in-disorder l = rw (← e, ne_eqb item 0 n, ← b, lt-ltb item last l)

      module _ (o : last ≤ item) {told own : ℕ} (t : told ≡ (note_at f ns k).time) (i : own ≡ time (item_no h item)) where
        pub too-early : told < own → some too_early ≡ disagreement f ns h k
        unfolding disagreement if◌then◌otherwise◌
        too-early l = rw (← e, ne_eqb item 0 n, ← b, le-ltb item last o, ← t, ← i, lt-ltb told own l)

        pub agrees : own ≤ told → none ≡ disagreement f ns h k
        unfolding disagreement if◌then◌otherwise◌
        agrees l = rw (← e, ne_eqb item 0 n, ← b, le-ltb item last o, ← t, ← i, le-ltb told own l)

  -- ---- all notes: from note k on, of n

  module _ {n : ℕ} (l : k < n) {d : Option Disagreement} (told : d ≡ disagreement f ns h k) where
    one-first : held_from f ns h k (n - k) ≡ unless_wrong k d (held_from f ns h (suc k) (n - (k + 1)))
    unfolding held_from
    one-first = let left : n - k ≡ suc (n - (k + 1)) = omega arith in rw (left, told)

    pub first-wrong : {w : Disagreement} → d ≡ some w → held_from f ns h k (n - k) ≡ disagrees (k + 1) w
    unfolding unless_wrong
    first-wrong q = one-first ∙ rw (q, add-one)

    pub next-note : d ≡ none → held_from f ns h k (n - k) ≡ held_from f ns h (k + 1) (n - (k + 1))
    unfolding unless_wrong
    next-note q = one-first ∙ rw (q, add-one)

  pub none_left : {n : ℕ} → n ≤ k → held_from f ns h k (n - k) ≡ all_agree
  unfolding held_from
  none_left {n} l = let left : n - k ≡ 0 = omega arith in rw left

  pub before-next : {item : ℕ} → item ≡ noted_item (note_at f ns k) h → item ≡ item_before f ns h (k + 1)
  unfolding item_before
  before-next e = e ∙ rw add-one

-- ---- before the first note

module _ (f : Format) (ns : List ℕ) (h : History) where
  pub held-begins : {n : ℕ} → n ≡ note_count f ns → held f ns h ≡ held_from f ns h 0 (n - 0)
  held-begins e = rw (e, sub-zero)

  pub before-none : 0 ≡ item_before f ns h 0
  unfolding item_before
  before-none = refl
