-- The first n items of the words, checked or not: what they are, and that the items which are passed, as those of a sound board, are these.
-- So a contract may speak of `history` and `place_of`, whatever the words are. Assumes nothing.
use Prim.Native.Nat.{ℕ, zero, suc, ◌+◌, ◌*◌, ◌≤◌, ◌<◌}
use native.Mathlib.Nat.{not-suc-le-zero, le_trans}
use native.Mathlib.Numerals.{add-one}
use native.Mathlib.Omega.{arith}
use mathlib.Core.Path.{◌≡◌, refl, sym, ap, subst, subst₂, ◌∙◌}
use mathlib.Core.Logic.{by_cases}
use native.Mathlib.Decide.{dec_le}
use mathlib.Core.List.{List, [], ◌∷◌, ◌++◌, append_assoc}
use lib.ListN.{length, get_or, take, length-append}
use lib.Seq.{take_all, take-append-le}
use Rattle.model.specs.Words.{count_of}
use Rattle.model.specs.Format.{Format}
use Rattle.model.specs.Item.{Item, item_at, item_length, behind, words_of}
use Rattle.model.specs.History.{History, Entry, entry, entry_of, place_of, history}
use Rattle.model.specs.Roll.{Eligibility, on_roll}
use Rattle.model.specs.Audit.{refused, accepted, audit}
use Rattle.model.specs.Sound.{Passed, next, Sound, Beginning}
use Rattle.model.specs.Program.{least_item}
use Rattle.model.proofs.Numbers.{entry-append, entry-snoc}
use Rattle.model.proofs.Parsing.{length-words, item-here}
use Rattle.model.proofs.Acceptance.{accepted↔sound, refused-stopped}

-- ---- the first n items of the words

-- at most n + 1 is at most n, or n + 1
at_most : {X : Type 0} (n k : ℕ) → k ≤ suc n → (k ≤ n → X) → (k ≡ suc n → X) → X
at_most n k l less same = by_cases (dec_le k n) less (λ m. same (omega arith))

module _ (f : Format) (ws : List ℕ) where
  pub length-history : (n : ℕ) → length (history f ws n) ≡ n
  unfolding history
  length-history zero = refl
  length-history (suc n) = rw (length-append (history f ws n) _, length-history n, add-one)

  -- the first k of them are the first k of fewer
  pub history-take : (n k : ℕ) → k ≤ n → take k (history f ws n) ≡ history f ws k
  unfolding history
  history-take zero k l = let none : k ≡ 0 = omega arith in rw none
  history-take (suc n) k l =
      let size : length (history f ws n) ≡ n = length-history n in
      at_most n k l
      (λ m. take-append-le k (history f ws n) _ (omega arith) ∙ history-take n k m)
      (λ q. rw q (take_all (suc n) (history f ws (suc n)) (omega (arith, length-history (suc n)))))

  -- item k + 1 is made after the first k
  pub entry-history : (n k : ℕ) → k < n
      → entry (history f ws n) (suc k) ≡ entry_of (history f ws k) (place_of f ws k) (item_at f ws (place_of f ws k))
  unfolding history
  entry-history zero k l = absurd (not-suc-le-zero l)
  entry-history (suc n) k l =
      let h = history f ws n in
      let e = entry_of h (place_of f ws n) (item_at f ws (place_of f ws n)) in
      let size : length h ≡ n = length-history n in
      at_most n (suc k) l
      (λ m. entry-append h (e ∷ []) (suc k) (omega arith) ∙ entry-history n k m)
      (λ q. let same : k ≡ n = omega arith in rw same (rw size at (entry-snoc h e)))

-- ---- what is passed is the unchecked history

-- whatever words stand behind
pub passed-history : {f : Format} {on : Eligibility} {words vs : List ℕ} {h : History} → Passed f on words vs h → (rest : List ℕ)
    → (h ≡ history f (words ++ rest) (length h)) × (place_of f (words ++ rest) (length h) ≡ length words)
unfolding history place_of item_at
passed-history Passed.none rest = (refl, refl)
passed-history {f} (next words vs h v i p m) rest =
    let ws : List ℕ = words ++ (words_of i ++ rest) in
    let (same, place) = passed-history p (words_of i ++ rest) in
    let read : item_at f ws (length words) ≡ i = item-here f words i rest m.shaped in
    let size : length (h ++ (entry_of h (length words) i ∷ [])) ≡ suc (length h) = rw (length-append h _, add-one) in
    let head : get_or ws (length words) 0 ≡ i.head = ap (λ (j : Item). j.head) read in
    let n = length words in
    let made : History → ℕ → Item → History = λ g p j. g ++ (entry_of g p j ∷ []) in
    let at = place_of f ws (length h) in
    subst₂ (λ (us : List ℕ) (k : ℕ). (made h n i ≡ history f us k) × (place_of f us k ≡ length (words ++ words_of i)))
    (sym (append_assoc words (words_of i) rest)) (sym size) (
      ap (made h n) (sym read) ∙ ap (λ (p : ℕ). made h p (item_at f ws p)) (sym place) ∙ ap (λ (g : History). made g at (item_at f ws at)) same,
      ap (behind f ws) place ∙ ap (λ (w : ℕ). n + item_length f (count_of w)) head
          ∙ ap (n +◌) (sym (length-words f i m.shaped)) ∙ sym (length-append words (words_of i)),
    )

pub beginning-history : {f : Format} {on : Eligibility} {ws vs : List ℕ} {h : History} → Beginning f on ws vs h → h ≡ history f ws (length h)
beginning-history b = rw b.of_words (passed-history b.passed _).0

pub sound-history : {f : Format} {ws vs roll : List ℕ} {h : History} → Sound f ws vs roll h → h ≡ history f ws (length h)
sound-history s = rw s.closed (passed-history s.passed _).0

pub accepted-history : (f : Format) (ws vs roll : List ℕ) (index ballots : ℕ) (h : History) → audit f ws vs roll index ballots ≡ accepted h
    → h ≡ history f ws (length h)
accepted-history f ws vs roll index ballots h e = sound-history ((accepted↔sound f ws vs roll index ballots h).0 e).0

pub accepted-first : (f : Format) (ws vs roll : List ℕ) (index ballots : ℕ) (h : History) → audit f ws vs roll index ballots ≡ accepted h
    → (k : ℕ) → k ≤ length h → take k h ≡ history f ws k
accepted-first f ws vs roll index ballots h e k l = ap (take k) (accepted-history f ws vs roll index ballots h e) ∙ history-take f ws (length h) k l

-- the items that a refusal counts are the first ones, and meet the rules
pub refused-history : (f : Format) (ws vs roll : List ℕ) (index ballots n k : ℕ) → audit f ws vs roll index ballots ≡ refused n k
    → Beginning f (on_roll roll) ws vs (history f ws k)
refused-history f ws vs roll index ballots n k e =
    let s = refused-stopped f ws vs roll index ballots n k e in
    rw (beginning-history s.beginning, s.count) at s.beginning

-- ---- how many words passed items have

least_more : (h : History) (e : Entry) (ws us : List ℕ) → least_item * length h ≤ length ws → least_item ≤ length us
    → least_item * length (h ++ (e ∷ [])) ≤ length (ws ++ us)
least_more h e ws us l m = omega (arith, length-append h (e ∷ []), length-append ws us)

item-least : (f : Format) (n : ℕ) → item_length f 0 ≤ item_length f n
unfolding item_length
item-least f n = omega arith

-- items have at least so many words
pub words-least : {f : Format} {on : Eligibility} {ws vs : List ℕ} {h : History} → least_item ≤ item_length f 0 → Passed f on ws vs h → least_item * length h ≤ length ws
unfolding item_length
words-least least Passed.none = omega arith
words-least {f} least (next ws vs h v i p m) =
    least_more h (entry_of h (length ws) i) ws (words_of i) (words-least least p)
    (subst (least_item ≤◌) (sym (length-words f i m.shaped)) (le_trans least (item-least f (count_of i.head))))
