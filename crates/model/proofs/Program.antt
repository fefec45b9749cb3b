-- What the program prints: it needs of the files only their byte counts and as many words as it has room for, and what it prints for empty
-- files, for a sound board, and for genesis alone. Paper: "The auditing program". Assumes nothing.
use Prim.Native.Nat.{ℕ, zero, suc, ◌*◌, ◌/◌, ◌%◌, ◌≤◌, ◌<◌, zero-le}
use native.Mathlib.Omega.{arith}
use native.Mathlib.Decide.{dec_le}
use mathlib.Core.Path.{◌≡◌, refl, sym, ap, subst, ◌∙◌}
use mathlib.Core.Logic.{◌≢◌, ◌⊎◌, ⊎_elim, by_cases}
use mathlib.Core.Bool.{Bool, true, not, ◌&&◌}
use mathlib.Core.Option.{Option, none, some}
use mathlib.Core.List.{List, [], ◌∷◌, ◌++◌, append-nil}
use lib.ListN.{length, get_or, take, length-append, length-take}
use lib.Seq.{take_all}
use lib.Dec.{T, eqb, eqb→eq, leb, ltb}
use borrow.Author.Tests.{ltb-false, leb-false, eqb-true, eqb-false, eq-eqb, ne_eqb}
use Rattle.model.specs.Lists.{if◌then◌otherwise◌, count, keep, latest}
use Rattle.model.specs.Words.{count_of}
use Rattle.model.specs.Refusal.{too_large, truncated, bad_roll}
use Rattle.model.specs.Format.{Format, verdict_size}
use Rattle.model.specs.Item.{item_length, behind, code}
use Rattle.model.specs.Types.{Row, row_of, fits, table}
use Rattle.model.specs.History.{History, Entry, main, entry_of}
use Rattle.model.specs.Counted.{counted, total_weight}
use Rattle.model.specs.Roll.{Eligibility, electors, rising, is_bad_roll, on_roll}
use Rattle.model.specs.Audit.{Outcome, accepted, head_fault, fault_in, fault, closing, judged, word_at, reading, items, audit, item_limit, index_need, ballot_need, is_too_large, closing_ok}
use Rattle.model.specs.Report.{report_of, ballot_rows}
use Rattle.model.specs.Sound.{Meets, Passed, next, Sound}
use Rattle.model.specs.Program.{from_bytes, bytes_per_word, program_limit, least_item, program_items, verdict_limit, roll_kept, are_whole, size_fault, sized, program_outcome, files_outcome, digits, spaced, refused_line, accepted_line, row_lines, text_of, printed}
use Rattle.model.proofs.Tests.{tests, by-test, is_true, is_false, by-if, if_yes, if_no, and-iff, not_iff, not-not}
use Rattle.model.proofs.Parts.{part-take}
use Rattle.model.proofs.Parsing.{length-words}
use Rattle.model.proofs.Table.{count_within, count-within-law}
use Rattle.model.proofs.Entries.{orderly, typed-main, first-genesis}
use Rattle.model.proofs.SoundAccepted.{no_words}
use Rattle.model.proofs.Acceptance.{accepted↔sound}
use Rattle.model.proofs.Unchecked.{words-least}
use Rattle.model.proofs.Roll.{good-roll}

-- ---- verdict words past 3,430

module _ (f : Format) (on : Eligibility) (ws vs : List ℕ) (least : least_item ≤ item_length f 0) (short : length ws ≤ program_limit) where
  abbrev front : List ℕ
  front = take verdict_limit vs

  -- at place p the words before it hold the items of h
  abbrev Behind : History → ℕ → Type 0
  Behind h p = least_item * length h ≤ p

  fault-cut : (r : Option Row) (h : History) (p : ℕ) → Behind h p → fault_in f on ws front r h p ≡ fault_in f on ws vs r h p
  unfolding fault_in head_fault item_length
  fault-cut none h p b = refl
  fault-cut (some r) h p b =
      by-test (ltb (length ws) (behind f ws p))
      (λ q. rw q)
      (λ q. rw (part-take (verdict_size * length h) verdict_size verdict_limit vs (omega (arith, ltb-false (length ws) (behind f ws p) q))))

  -- an item without a fault is whole
  fault-whole : (r : Option Row) (h : History) (p : ℕ) → fault_in f on ws vs r h p ≡ 0 → behind f ws p ≤ length ws
  unfolding fault_in head_fault
  fault-whole none h p e = absurd (omega arith)
  fault-whole (some r) h p e =
      by-if (λ n. n ≡ 0 → behind f ws p ≤ length ws) (not (fits r.counts (count_of (get_or ws p 0)))) _ _ (λ t q. absurd (omega arith))
      (λ t. by-if (λ n. n ≡ 0 → behind f ws p ≤ length ws) (ltb (length ws) (behind f ws p)) _ _ (λ u q. absurd (omega arith)) (λ u q. omega (arith, tests)))
      e

  -- whether verdict words are left over
  left_cut : (n : ℕ) → n < verdict_limit → eqb n (length front) ≡ eqb n (length vs)
  left_cut n l =
      by-test (eqb n (length vs))
      (λ q. let e = eqb-true n (length vs) q in eq-eqb n (length front) (rw length-take (omega arith)) ∙ sym q)
      (λ q. let e = eqb-false n (length vs) q in ne_eqb n (length front) (rw length-take (λ d. e (omega arith))) ∙ sym q)

  closing-cut : (h : History) (p : ℕ) → Behind h p → p < length ws → closing (closing_ok ws front h p) h ≡ closing (closing_ok ws vs h p) h
  unfolding closing
  closing-cut h p b l = rw (left_cut (verdict_size * length h) (omega arith))

  judged-cut : (n : ℕ) (h : History) (o o' : Outcome) → (n ≡ 0 → o ≡ o') → judged n h o ≡ judged n h o'
  unfolding judged
  judged-cut zero h o o' e = e refl
  judged-cut (suc n) h o o' e = refl

  word_cut : (h : History) (p : ℕ) (o o' : Outcome) → Behind h p → o ≡ o' → word_at ws (closing_ok ws front) h p o ≡ word_at ws (closing_ok ws vs) h p o'
  unfolding word_at
  word_cut h p o o' b e =
      by-test (leb (length ws) p)
      (λ q. rw q)
      (λ q. rw (q, closing-cut h p b (leb-false (length ws) p q), e))

  items-cut : (k : ℕ) (h : History) (p : ℕ) → Behind h p → items f on ws front k h p ≡ items f on ws vs k h p
  unfolding reading item_length
  items-cut zero h p b = word_cut h p _ _ b refl
  items-cut (suc k) h p b =
      word_cut h p _ _ b
      (rw (fault-cut (row_of f (get_or ws p 0)) h p b) (judged-cut (fault f on ws vs h p) h _ _
      (λ e. items-cut k _ _ (rw length-append (omega (arith, fault-whole (row_of f (get_or ws p 0)) h p e))))))

-- ---- roll words past 4,097

-- more than 4,096 roll words are a bad roll
long-roll : (roll : List ℕ) → 4096 < length roll → is_bad_roll roll ≡ true
long-roll roll l = by-test (is_bad_roll roll) (λ q. q) (λ q. let (even, few, rises) = (good-roll roll).0 (rw q tt) in absurd (omega arith))

roll-cut : (f : Format) (ws vs roll : List ℕ) (index ballots : ℕ) → audit f ws vs (take roll_kept roll) index ballots ≡ audit f ws vs roll index ballots
unfolding audit
roll-cut f ws vs roll index ballots =
    by_cases (dec_le roll_kept (length roll))
    (λ l. rw (long-roll roll l, long-roll (take roll_kept roll) (rw length-take (omega arith))))
    (λ l. rw (take_all roll_kept roll (omega arith)))

-- ---- the words of all files

-- verdicts under which the items come out alike
verdicts-cut : (f : Format) (ws vs vs' roll : List ℕ) (index ballots : ℕ) → items f (on_roll roll) ws vs item_limit [] 0 ≡ items f (on_roll roll) ws vs' item_limit [] 0
    → audit f ws vs roll index ballots ≡ audit f ws vs' roll index ballots
unfolding audit
verdicts-cut f ws vs vs' roll index ballots e = rw e

words-cut : (f : Format) (ws vs roll : List ℕ) → least_item ≤ item_length f 0 → length ws ≤ program_limit
    → audit f (take program_limit ws) (take verdict_limit vs) (take roll_kept roll) index_need ballot_need ≡ audit f ws vs roll index_need ballot_need
words-cut f ws vs roll least short =
    roll-cut f (take program_limit ws) (take verdict_limit vs) roll index_need ballot_need
    ∙ ap (λ (x : List ℕ). audit f x (take verdict_limit vs) roll index_need ballot_need) (take_all program_limit ws short)
    ∙ verdicts-cut f ws (take verdict_limit vs) vs roll index_need ballot_need (items-cut f (on_roll roll) ws vs least short item_limit [] 0 zero-le)

-- ---- how many items

-- a board that the program takes has at most 381 items
pub few-items : {f : Format} {ws vs roll : List ℕ} {h : History} → least_item ≤ item_length f 0 → Sound f ws vs roll h → length ws ≤ program_limit → length h ≤ program_items
few-items least s l = omega (arith, words-least least s.passed, simp length-append at (ap length s.closed))

-- ---- files

four-more : (n : ℕ) → suc (n / bytes_per_word) ≡ suc (suc (suc (suc n))) / bytes_per_word
four-more n = omega arith

pub length-from-bytes : (bs : List ℕ) → length (from_bytes bs) ≡ length bs / bytes_per_word
unfolding from_bytes
length-from-bytes (a ∷ b ∷ c ∷ d ∷ rest) = ap suc (length-from-bytes rest) ∙ four-more (length rest)
length-from-bytes (a ∷ b ∷ c ∷ []) = refl
length-from-bytes (a ∷ b ∷ []) = refl
length-from-bytes (a ∷ []) = refl
length-from-bytes [] = refl

size-odd : (board verdicts roll : ℕ) → T (not (are_whole board verdicts roll)) → size_fault board verdicts roll ≡ truncated
unfolding size_fault
size-odd board verdicts roll t = if_yes (not (are_whole board verdicts roll)) _ _ t

size-over : (board verdicts roll : ℕ) → T (are_whole board verdicts roll) → program_limit < board / bytes_per_word → size_fault board verdicts roll ≡ too_large
unfolding size_fault
size-over board verdicts roll t l =
    if_no (not (are_whole board verdicts roll)) _ _ ((not-not (are_whole board verdicts roll)).1 t)
    ∙ if_yes (ltb program_limit (board / bytes_per_word)) _ _ (omega (arith, tests))

-- sizes without a fault
size-fine : (board verdicts roll : ℕ) → size_fault board verdicts roll ≡ 0 → board / bytes_per_word ≤ program_limit
unfolding size_fault
size-fine board verdicts roll e =
    by-if (λ n. n ≡ 0 → board / bytes_per_word ≤ program_limit) (not (are_whole board verdicts roll)) _ _ (λ t q. absurd (omega arith))
    (λ t. by-if (λ n. n ≡ 0 → board / bytes_per_word ≤ program_limit) (ltb program_limit (board / bytes_per_word)) _ _ (λ u q. absurd (omega arith)) (λ u q. omega (arith, tests)))
    e

size-zero : (board verdicts roll : ℕ) → T (are_whole board verdicts roll) → board / bytes_per_word ≤ program_limit → size_fault board verdicts roll ≡ 0
unfolding size_fault
size-zero board verdicts roll t l =
    if_no (not (are_whole board verdicts roll)) _ _ ((not-not (are_whole board verdicts roll)).1 t)
    ∙ if_no (ltb program_limit (board / bytes_per_word)) _ _ (omega (arith, tests))

sized-cut : (n : ℕ) (o o' : Outcome) → (n ≡ 0 → o ≡ o') → sized n o ≡ sized n o'
unfolding sized
sized-cut zero o o' e = e refl
sized-cut (suc n) o o' e = refl

module _ (f : Format) (board verdicts roll : List ℕ) where
  -- the byte counts are multiples of 4
  abbrev pub WholeFiles : Type 0
  WholeFiles = (length board % 4 ≡ 0) × (length verdicts % 4 ≡ 0) × (length roll % 4 ≡ 0)

  whole : WholeFiles → T (are_whole (length board) (length verdicts) (length roll))
  whole (b, v, r) = rw (b, v, r) tt

  not-whole : (length board % 4 ≢ 0) ⊎ (length verdicts % 4 ≢ 0) ⊎ (length roll % 4 ≢ 0) → T (not (are_whole (length board) (length verdicts) (length roll)))
  not-whole odd =
      let whole-one : (n : ℕ) → Bool = λ n. eqb (n % bytes_per_word) 0 in
      (not_iff (are_whole (length board) (length verdicts) (length roll))).1 (λ t.
      let (two, r) = (and-iff (whole-one (length board) && whole-one (length verdicts)) (whole-one (length roll))).0 t in
      let (b, v) = (and-iff (whole-one (length board)) (whole-one (length verdicts))).0 two in
      ⊎_elim (λ n. n (eqb→eq _ 0 b)) (⊎_elim (λ n. n (eqb→eq _ 0 v)) (λ n. n (eqb→eq _ 0 r))) odd)

  -- of the files' words, the first 16,384, the first 3,430 and the first 4,097 are enough
  pub files-cut : least_item ≤ item_length f 0
      → program_outcome f (length board) (length verdicts) (length roll)
      (take program_limit (from_bytes board)) (take verdict_limit (from_bytes verdicts)) (take roll_kept (from_bytes roll))
      ≡ files_outcome f board verdicts roll
  unfolding files_outcome
  files-cut least =
      sized-cut (size_fault (length board) (length verdicts) (length roll)) _ _
      (λ e. words-cut f (from_bytes board) (from_bytes verdicts) (from_bytes roll) least
      (rw length-from-bytes (size-fine (length board) (length verdicts) (length roll) e)))

  -- "if either file's byte count isn't a multiple of 4, it is refused as 4 with 0", whatever else is wrong
  pub odd-size : (length board % 4 ≢ 0) ⊎ (length verdicts % 4 ≢ 0) ⊎ (length roll % 4 ≢ 0) → printed f board verdicts roll ≡ refused_line truncated 0
  unfolding files_outcome sized text_of
  odd-size odd = rw (size-odd (length board) (length verdicts) (length roll) (not-whole odd))

  -- "a board of at most 16,384 words (more is refused as 1)"
  pub over-size : WholeFiles → program_limit < length (from_bytes board) → printed f board verdicts roll ≡ refused_line too_large 0
  unfolding files_outcome sized text_of
  over-size w l = rw (size-over (length board) (length verdicts) (length roll) (whole w) (rw length-from-bytes at l))

  -- any other files are printed as the audit of their words answers
  pub audited-printed : WholeFiles → length (from_bytes board) ≤ program_limit
      → printed f board verdicts roll ≡ text_of (audit f (from_bytes board) (from_bytes verdicts) (from_bytes roll) index_need ballot_need)
  unfolding files_outcome sized
  audited-printed w short = rw (size-zero (length board) (length verdicts) (length roll) (whole w) (rw length-from-bytes at short))

  -- so "more than 4,096 words are a bad roll"
  pub over-roll : WholeFiles → length (from_bytes board) ≤ program_limit → 4096 < length (from_bytes roll)
      → printed f board verdicts roll ≡ refused_line bad_roll 0
  unfolding audit text_of
  over-roll w short l =
      audited-printed w short
      ∙ rw (is_false (is_too_large (from_bytes board)) (omega (arith, tests)), long-roll (from_bytes roll) l)

  -- and a sound board is accepted
  pub sound-printed : {h : History} → WholeFiles → length (from_bytes board) ≤ program_limit
      → Sound f (from_bytes board) (from_bytes verdicts) (from_bytes roll) h → printed f board verdicts roll ≡ text_of (accepted h)
  sound-printed {h} w short sound =
      audited-printed w short
      ∙ ap text_of ((accepted↔sound f (from_bytes board) (from_bytes verdicts) (from_bytes roll) index_need ballot_need h).1 (sound, omega arith, omega arith))

-- an accepted board is printed with what is reported of it
pub accepted-text : (f : Format) (h : History) → let r = report_of f (accepted h) in
    text_of (accepted h) ≡ accepted_line r.items r.mains r.ballots r.weight ++ row_lines (ballot_rows (counted h))
unfolding report_of text_of
accepted-text f h = refl

-- ---- samples

-- "high byte first": the paper's first head word
pub high-byte-first : from_bytes (0x10 ∷ 0x01 ∷ 0x00 ∷ 0x11 ∷ []) ≡ 0x10010011 ∷ []
unfolding from_bytes
high-byte-first = refl

-- "Empty files print the single line `refused 3 at 0`."
pub empty-printed : (f : Format) → printed f [] [] [] ≡ 114 ∷ 101 ∷ 102 ∷ 117 ∷ 115 ∷ 101 ∷ 100 ∷ 32 ∷ 51 ∷ 32 ∷ 97 ∷ 116 ∷ 32 ∷ 48 ∷ 10 ∷ []
unfolding files_outcome size_fault sized audit is_bad_roll electors rising text_of refused_line spaced digits from_bytes if◌then◌otherwise◌
empty-printed f = refl

-- one item is genesis
genesis-text : {f : Format} {on : Eligibility} {ws vs : List ℕ} (h : History) → Passed f on ws vs h → length h ≡ 1 → text_of (accepted h) ≡ accepted_line 1 1 0 0
unfolding text_of counted keep latest count total_weight ballot_rows row_lines
genesis-text [] p one = absurd (omega arith)
genesis-text (e ∷ e' ∷ es) p one = absurd (omega arith)
genesis-text {f} (e ∷ []) p one =
    let o = orderly p in
    let code_one : code e.item ≡ 1 = eqb→eq (code e.item) 1 o.opens in
    let mains = is_true (main e) (typed-main o.each.0 1 (omega arith) o.opens) in
    let no-cast = ne_eqb (code e.item) 20 (omega arith) in
    rw (mains, no-cast, append-nil)

no_item : (h : History) (e : Entry) → length (h ++ (e ∷ [])) ≡ 1 → 1 ≤ length h → ⊥
no_item h e one l = omega (arith, length-append h (e ∷ []))

empty : (h : History) → (1 ≤ length h → ⊥) → h ≡ []
empty [] l = refl
empty (e ∷ es) l = absurd (l (omega arith))

genesis-words : {f : Format} {on : Eligibility} {ws vs : List ℕ} {h : History} → Passed f on ws vs h → length h ≡ 1 → length ws ≤ item_length f 18
unfolding count_within table item_length
genesis-words Passed.none one = zero-le
genesis-words {f} {on} (next ws vs h v i p m) one =
    let few = no_item h (entry_of h (length ws) i) one in
    let first = subst (λ (g : History). Meets f on g v i) (empty h few) m in
    let count = count-within-law 1 17 18 (count_of i.head) tt m.listed (eqb→eq (code i) 1 (first-genesis first)) m.counted in
    rw (no_words p few) (omega (arith, length-words f i m.shaped))

-- "A sound board of genesis alone prints `accepted 1 1 0 0`."
pub genesis-printed : (f : Format) (board verdicts roll : List ℕ) {h : History} → item_length f 18 < program_limit
    → WholeFiles f board verdicts roll → Sound f (from_bytes board) (from_bytes verdicts) (from_bytes roll) h → length h ≡ 1
    → printed f board verdicts roll ≡ 97 ∷ 99 ∷ 99 ∷ 101 ∷ 112 ∷ 116 ∷ 101 ∷ 100 ∷ 32 ∷ 49 ∷ 32 ∷ 49 ∷ 32 ∷ 48 ∷ 32 ∷ 48 ∷ 10 ∷ []
unfolding accepted_line spaced digits if◌then◌otherwise◌
genesis-printed f board verdicts roll {h} fits whole s one =
    let short : length (from_bytes board) ≤ program_limit =
    omega (arith, genesis-words s.passed one, simp length-append at (ap length s.closed)) in
    sound-printed f board verdicts roll whole short s ∙ genesis-text h s.passed one
