-- A board with one more main item just before its closing word has the history of the board without it and one more entry, and is sound exactly
-- where that item meets the rules there. Paper: request (xiii). Assumes nothing.
use Prim.Native.Nat.{ℕ, suc, ◌+◌, ◌-◌, ◌≤◌, ◌<◌}
use native.Mathlib.Omega.{arith}
use mathlib.Core.Path.{◌≡◌, refl, sym, ap, subst, ◌∙◌}
use mathlib.Core.Logic.{◌↔◌}
use mathlib.Core.List.{List, [], ◌∷◌, ◌++◌, append_assoc, append-nil}
use lib.ListN.{length, get_or, length-append}
use lib.Seq.{take-append_seam}
use Rattle.model.specs.Words.{count_of, closing_word}
use Rattle.model.specs.Format.{Format, Hashes}
use Rattle.model.specs.Traits.{format_of}
use Rattle.model.specs.Item.{Item, item_at, item_length, words_of}
use Rattle.model.specs.History.{History, Entry, entry_of, place_of, history}
use Rattle.model.specs.Roll.{on_roll}
use Rattle.model.specs.Audit.{word_limit, item_limit}
use Rattle.growth.specs.Growth.{OneMore}
use Rattle.model.specs.Program.{least_item}
use Rattle.model.specs.Sound.{Shaped, Meets, Passed, next, Sound, Made}
use Rattle.model.proofs.Parts.{append-cut}
use Rattle.model.proofs.Numbers.{entry-snoc}
use Rattle.model.proofs.Entries.{orderly}
use Rattle.model.proofs.Keys.{verdict-words, length-verdicts}
use Rattle.model.proofs.Parsing.{length-words, item-here}
use Rattle.model.proofs.Unchecked.{passed-history, words-least}
use Rattle.model.proofs.Beginnings.{made_at}
use Rattle.model.proofs.Traits.{format-front}

no_more : {A : Type 0} (xs : List A) → length xs ≡ 0 → xs ≡ []
no_more [] e = refl
no_more (x ∷ xs) e = absurd (omega arith)

-- lists that end with one more element
last-cut : {A : Type 0} (xs ys : List A) {x y : A} → xs ++ (x ∷ []) ≡ ys ++ (y ∷ []) → (xs ≡ ys) × (x ∷ [] ≡ y ∷ [])
last-cut xs ys e = append-cut xs ys (omega (arith, simp length-append at (ap length e))) e

-- a sound board is its items and a closing word with their number
closed-words : {f : Format} {ws vs roll : List ℕ} {h : History} (s : Sound f ws vs roll h) (words : List ℕ) (n : ℕ) → ws ≡ words ++ (closing_word n ∷ [])
    → Passed f (on_roll roll) words vs h × (n ≡ length h)
closed-words {f} {vs = vs} {roll} {h} s words n e =
    let (same, last) = last-cut s.words words (sym s.closed ∙ e) in
    let word : closing_word (length h) ≡ closing_word n = ap (λ (l : List ℕ). get_or l 0 0) last in
    (subst (λ (us : List ℕ). Passed f (on_roll roll) us vs h) same s.passed, omega arith)

-- the item that some words are
item-alone : (f : Format) (i : Item) → Shaped f i → item_at f (words_of i) 0 ≡ i
item-alone f i shaped = rw append-nil at (item-here f [] i [] shaped)

module _ {f : Format} {ws vs ws' roll : List ℕ} {h : History} (m : OneMore ws ws') (s : Sound f ws vs roll h) where
  pub passed : Passed f (on_roll roll) m.words vs h
  passed = (closed-words s m.words m.number m.closed).0

  number : m.number ≡ length h
  number = (closed-words s m.words m.number m.closed).1

  -- the new head stands where the closing word stood
  head-place : length m.words ≡ length ws - 1
  head-place = rw m.closed (simp length-append (omega arith))

  abbrev item : Item
  item = item_at f m.more 0

  abbrev new : Entry
  new = entry_of h (length ws - 1) item

  -- ---- where both are sound, the second history is the first with one more entry

  module _ {vs' : List ℕ} {h' : History} (s' : Sound f ws' vs' roll h') where
    both : Passed f (on_roll roll) (m.words ++ m.more) vs' h' × (m.number + 1 ≡ length h')
    both = closed-words s' (m.words ++ m.more) (m.number + 1) (m.closed_later ∙ sym (append_assoc m.words m.more _))

    -- the item as it is read on the second board
    abbrev read : Item
    read = item_at f (m.words ++ (m.more ++ (closing_word (m.number + 1) ∷ []))) (length m.words)

    grows : (h' ≡ h ++ (entry_of h (length m.words) read ∷ []))
        × (length m.words + item_length f (count_of read.head) ≡ length m.words + length m.more)
    unfolding history place_of item_at
    grows =
        let (same, place) = passed-history passed (m.more ++ (closing_word (m.number + 1) ∷ [])) in
        let next : length h' ≡ suc (length h) = omega (arith, both.1, number) in
        let (all, behind) = passed-history both.0 (closing_word (m.number + 1) ∷ []) in
        (rw (append_assoc, next, ← same, place) at all, rw (append_assoc, next, place, length-append) at behind)

    pub made : Made f (on_roll roll) (m.words ++ m.more) vs' h (entry_of h (length m.words) read)
    made =
        let e = entry_of h (length m.words) read in
        let one : length h < length (h ++ (e ∷ [])) = simp length-append (omega arith) in
        rw (take-append_seam, entry-snoc) at (made_at (rw grows.0 at both.0) (length h) one)

    -- the words are that item's
    more-words : m.more ≡ words_of read
    unfolding entry_of
    more-words =
        let b = made.before in
        let here : length b.words ≡ length m.words = sym (ap (λ (e : Entry). e.place) made.made) in
        let split : m.more ≡ words_of read ++ made.words_later = (append-cut m.words b.words (sym here) b.of_words).1 ∙ made.of_words in
        let size = length-words f read made.meets.shaped in
        let none = no_more made.words_later (omega (arith, grows.1, simp length-append at (ap length split))) in
        split ∙ ap (words_of read ++◌) none ∙ append-nil (words_of read)

    item-read : item ≡ read
    unfolding entry_of
    item-read = ap (λ (us : List ℕ). item_at f us 0) more-words ∙ item-alone f read made.meets.shaped

    pub one-item : m.more ≡ words_of item
    one-item = rw item-read more-words

    pub longer : h' ≡ h ++ (new ∷ [])
    longer = rw (item-read, ← head-place) grows.0

    -- it meets the rules after the first board's items, with some verdict words,
    pub meets : Meets f (on_roll roll) h made.verdict item
    unfolding entry_of
    meets = rw item-read made.meets

    -- which are those that were added
    added : (v : List ℕ) → vs' ≡ vs ++ v → made.verdict ≡ v
    unfolding entry_of
    added v e =
        let b = made.before in
        let all : b.verdicts ++ (made.verdict ++ made.verdicts_later) ≡ vs ++ v = ap (b.verdicts ++◌) (sym made.of_verdicts) ∙ sym b.of_verdicts ∙ e in
        let left = (append-cut b.verdicts vs (length-verdicts b.passed ∙ sym (length-verdicts passed)) all).1 in
        let sizes = simp length-append at (ap length left) in
        let total = simp length-append at (ap length e) in
        let nine = verdict-words made.meets (orderly passed) in
        let none = no_more made.verdicts_later (omega (arith, length-verdicts passed, length-verdicts both.0, both.1, number)) in
        sym (append-nil made.verdict) ∙ ap (made.verdict ++◌) (sym none) ∙ left

  -- ---- what following it takes

  -- the words are one item, it meets the rules with the verdict words that are added, and the limits hold
  pub sound-longer : {vs' : List ℕ} (v : List ℕ) → vs' ≡ vs ++ v → Sound f ws' vs' roll (h ++ (new ∷ []))
      ↔ ((m.more ≡ words_of item) × Meets f (on_roll roll) h v item × (length h < item_limit) × (length ws' ≤ word_limit))
  sound-longer v e = (
    λ s'. (
      one-item s',
      subst (λ (u : List ℕ). Meets f (on_roll roll) h u item) (added s' v e) (meets s'),
      omega (arith, simp length-append at s'.few),
      s'.short,
    ),
    λ (whole, met, few, short). record {
      words = m.words ++ m.more;
      passed = rw (e, ← head-place)
          (subst (λ (us : List ℕ). Passed f (on_roll roll) (m.words ++ us) (vs ++ v) (h ++ (entry_of h (length m.words) item ∷ []))) (sym whole)
          (next m.words vs h v item passed met));
      good_roll = s.good_roll;
      opened = simp length-append (omega arith);
      few = simp length-append (omega arith);
      short = short;
      closed = let size : length (h ++ (new ∷ [])) ≡ m.number + 1 = simp length-append (omega (arith, number)) in
          rw size (m.closed_later ∙ sym (append_assoc m.words m.more _));
    },
  )

-- the format is one, by the first items' words
pub same_format : (s : Hashes) {f : Format} {ws vs ws' roll : List ℕ} {h : History} → OneMore ws ws' → Sound f ws vs roll h
    → least_item ≤ item_length f 0 → format_of s ws' ≡ format_of s ws
same_format s o b least =
    let long : 18 < length o.words = omega (arith, words-least least (passed o b), b.opened) in
    ap (format_of s) o.closed_later ∙ format-front s o.words _ _ long ∙ sym (ap (format_of s) o.closed)
