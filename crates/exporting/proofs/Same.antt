-- What the export of an accepted board tells: each line reads back as its main item, the signature left aside, so that boards with the same
-- export have the same main items, and the same format, and compare as the same; and how long an export is at most.
-- Paper: request (xi). Assumes nothing.
use Prim.Native.Nat.{ℕ, zero, suc, ◌+◌, ◌*◌, ◌/◌, ◌%◌, ◌^◌, ◌≤◌, ◌<◌}
use native.Mathlib.Omega.{arith}
use mathlib.Core.Path.{◌≡◌, refl, sym, ap, ap₂, subst, ◌∙◌}
use mathlib.Core.Logic.Iff
use mathlib.Core.Logic.{◌↔◌}
use mathlib.Core.List.{List, [], ◌∷◌, ◌++◌, map}
use lib.ListN.{length, length-append}
use lib.Seq.{get_or-append-add, take_all}
use lib.Dec.{T, eqb→eq}
use Rattle.model.specs.Lists.{count, keep}
use Rattle.model.specs.Words.{kind_of, code_of, count_of, main_kind, pair}
use Rattle.model.specs.Format.{Format, Hashes}
use Rattle.model.specs.Traits.{format_of}
use Rattle.model.specs.Item.{Item, item_length, hashed, words_of, is_main, unsigned}
use Rattle.model.specs.History.{History, Entry, main, main_items, entry_of}
use Rattle.model.specs.Roll.{Eligibility}
use Rattle.model.specs.Audit.{word_limit, accepted, audit}
use Rattle.model.specs.Sound.{Shaped, Passed, none, next, Sound}
use Rattle.model.specs.Compare.{same}
use Rattle.model.specs.Comparing.{compared, comparing_answer}
use Rattle.model.specs.Program.{decimal}
use Rattle.model.proofs.Tests.{by-if}
use Rattle.model.proofs.Lists.{Every, every_map, every-snoc, every-keep, keep_append}
use Rattle.model.proofs.MainItems.{mains-count}
use Rattle.model.proofs.Parsing.{length-words}
use Rattle.model.proofs.Decimal.{length-decimal}
use Rattle.model.proofs.Entries.{orderly}
use Rattle.model.proofs.Chain.{main-opened}
use Rattle.model.proofs.Comparison.{same-unsigned}
use Rattle.model.proofs.Traits.{Sizes, sizes, one-hash}
use Rattle.model.proofs.Acceptance.{accepted↔sound}
use Rattle.model.proofs.Genesis.{main-format}
use Rattle.model.proofs.Comparing.{answered}
use Rattle.exporting.specs.Json.{object_text}
use Rattle.exporting.specs.Export.{hex_words, members_of, line_of, lines_of, export_text}
use Rattle.exporting.specs.Reading.{AreWords, lines_in, words_in, number_in, words_of as value_words, item_from, decode}
use Rattle.exporting.proofs.Hex.{words-read}
use Rattle.exporting.proofs.Text.{line-length, lines_of-append, export-alone}
use Rattle.exporting.proofs.Reading.{export-lines, object-read}

-- ---- a line

head-is : (w n : ℕ) → kind_of w ≡ 1 → n ≡ count_of w → main_kind * 2 ^ 28 + code_of w * 2 ^ 16 + n ≡ w
unfolding kind_of code_of count_of
head-is w n k e = omega arith

-- two words, from the number that they are
pair_read : (ws : List ℕ) → length ws ≡ 2 → AreWords ws → (pair ws / 2 ^ 32 ∷ pair ws % 2 ^ 32 ∷ []) ≡ ws
unfolding pair
pair_read [] e w = absurd (omega arith)
pair_read (a ∷ []) e w = absurd (omega arith)
pair_read (hi ∷ lo ∷ []) e w =
    let small = w 1 in
    let (high, low) : ((hi * 2 ^ 32 + lo) / 2 ^ 32 ≡ hi) × ((hi * 2 ^ 32 + lo) % 2 ^ 32 ≡ lo) = (omega arith, omega arith) in
    rw (high, low)
pair_read (a ∷ b ∷ c ∷ ws) e w = absurd (omega arith)

module _ (f : Format) (i : Item) (s : Shaped f i) (m : T (is_main i)) (content : AreWords i.content) (parent : AreWords i.parent)
    (previous : AreWords i.previous) (stamp : AreWords i.stamp) (address : AreWords i.address) where
  item-told : item_from (members_of i) ≡ unsigned i
  unfolding item_from members_of number_in value_words
  item-told =
      let words = words-read i.content content in
      let n = length (words_in (hex_words i.content)) in
      let head = head-is i.head n (eqb→eq (kind_of i.head) main_kind m) (ap length words ∙ s.content) in
      let two = pair_read i.stamp s.stamp stamp in
      λ j. record {
        head = head j;
        content = words j;
        parent = words-read i.parent parent j;
        previous = words-read i.previous previous j;
        stamp = two j;
        signature = [];
        address = words-read i.address address j;
      }

  pub line-decoded : decode (object_text (members_of i)) ≡ unsigned i
  line-decoded = ap item_from (object-read i) ∙ item-told

-- ---- the items of a board of 32-bit words

words_left : (xs ys : List ℕ) → AreWords (xs ++ ys) → AreWords xs
words_left [] ys w k = omega arith
words_left (x ∷ xs) ys w zero = w 0
words_left (x ∷ xs) ys w (suc k) = words_left xs ys (λ j. w (suc j)) k

words_right : (xs ys : List ℕ) → AreWords (xs ++ ys) → AreWords ys
words_right xs ys w k = rw get_or-append-add at (w (length xs + k))

-- an item whose parts have their lengths and are such words
record Wide (f : Format) (i : Item) : Type 0 where
  shaped : Shaped f i
  content : AreWords i.content
  parent : AreWords i.parent
  previous : AreWords i.previous
  stamp : AreWords i.stamp
  address : AreWords i.address

wide : {f : Format} (i : Item) → Shaped f i → AreWords (words_of i) → Wide f i
unfolding words_of hashed
wide i s w =
    let text = words_left (hashed i) _ w in
    let body : AreWords (i.content ++ (i.parent ++ (i.previous ++ i.stamp))) = λ k. text (suc k) in
    let links = words_right i.content _ body in
    let rest = words_right i.parent _ links in
    record {
      shaped = s;
      content = words_left i.content _ body;
      parent = words_left i.parent _ links;
      previous = words_left i.previous _ rest;
      stamp = words_right i.previous _ rest;
      address = words_right i.signature _ (words_right (hashed i) _ w);
    }

all-wide : {f : Format} {on : Eligibility} {ws vs : List ℕ} {h : History} → Passed f on ws vs h → AreWords ws
    → Every (λ e. Wide f e.item) h
unfolding entry_of
all-wide none w = tt
all-wide {f} (next ws vs h v i p m) w =
    every-snoc (λ (e : Entry). Wide f e.item) h _ (all-wide p (words_left ws (words_of i) w))
    (wide i m.shaped (words_right ws (words_of i) w))

-- ---- an export

-- what g makes of what k makes of the elements, where that is l of each
map_each : {A B C : Type 0} (g : B → C) (k : A → B) (l : A → C) (xs : List A) → Every (λ x. g (k x) ≡ l x) xs → map g (map k xs) ≡ map l xs
map_each g k l [] all = refl
map_each g k l (x ∷ xs) all = ap₂ ◌∷◌ all.0 (map_each g k l xs all.1)

module _ {f : Format} {on : Eligibility} {ws vs : List ℕ} {h : History} (p : Passed f on ws vs h) (w : AreWords ws) where
  abbrev Decoded : Item → Type 0
  Decoded i = decode (object_text (members_of i)) ≡ unsigned i

  mains-decoded : Every Decoded (main_items h)
  mains-decoded =
      every-keep main (λ (e : Entry). e.item) Decoded h
      (every_map (λ (e : Entry). Wide f e.item) (λ (e : Entry). T (main e) → Decoded e.item)
      (λ e i t. line-decoded f e.item i.shaped t i.content i.parent i.previous i.stamp i.address) h (all-wide p w))

  passed-read : map decode (lines_in (export_text h)) ≡ map unsigned (main_items h)
  passed-read = ap (map decode) (export-lines h) ∙ map_each decode (λ i. object_text (members_of i)) unsigned (main_items h) mains-decoded

-- ---- its length

-- a type has at most four, a time at most twenty
pub code-digits : (w : ℕ) → length (decimal (code_of w)) ≤ 4
unfolding code_of
code-digits w = length-decimal 3 _ (omega arith)

pair_small : (ws : List ℕ) → AreWords ws → pair ws < 10 ^ 20
unfolding pair
pair_small [] w = omega arith
pair_small (a ∷ []) w = omega (arith, w 0)
pair_small (hi ∷ lo ∷ ws) w = omega (arith, w 0, w 1)

time-digits : (ws : List ℕ) → AreWords ws → length (decimal (pair ws)) ≤ 20
time-digits ws w = length-decimal 19 (pair ws) (pair_small ws w)

module _ {f : Format} (z : Sizes f) where
  -- seventy bytes and the digits are fewer than eight for each word of the head, the time and the signature
  line-size : (i : Item) → Wide f i → length (line_of i) ≤ 8 * length (words_of i)
  unfolding item_length
  line-size i d =
      let s = d.shaped in
      omega (arith, line-length i, length-words f i s, code-digits i.head, time-digits i.stamp d.stamp)

  -- a hidden item has no line
  item-size : (e : Entry) → Wide f e.item → length (lines_of (main_items (e ∷ []))) ≤ 8 * length (words_of e.item)
  unfolding keep lines_of
  item-size e d =
      by-if (λ (is : List Item). length (lines_of is) ≤ 8 * length (words_of e.item)) (main e) (e.item ∷ []) []
      (λ t. simp length-append (omega (arith, line-size e.item d)))
      (λ t. omega arith)

  passed-size : {on : Eligibility} {ws vs : List ℕ} {h : History} → Passed f on ws vs h → AreWords ws → length (export_text h) ≤ 8 * length ws
  unfolding export_text keep lines_of entry_of
  passed-size none w = omega arith
  passed-size (next ws vs h v i p m) w =
      let e = entry_of h (length ws) i in
      let before = passed-size p (words_left ws (words_of i) w) in
      let own = item-size e (wide i m.shaped (words_right ws (words_of i) w)) in
      simp (keep_append, lines_of-append, length-append) (omega arith)

-- ---- an accepted board

module _ (s : Hashes) (ws vs roll : List ℕ) (index ballots : ℕ) (h : History)
    (a : audit (format_of s ws) ws vs roll index ballots ≡ accepted h) where
  board-sound : Sound (format_of s ws) ws vs roll h
  board-sound = ((accepted↔sound (format_of s ws) ws vs roll index ballots h).0 a).0

  module _ (w : AreWords ws) where
    items-words : AreWords board-sound.words
    items-words = words_left board-sound.words _ (subst AreWords board-sound.closed w)

    pub export-read : map decode (lines_in (export_text h)) ≡ map unsigned (main_items h)
    export-read = passed-read board-sound.passed items-words

    -- the closing word has no line
    pub export-size : length (export_text h) < 8 * length ws
    export-size =
        let items = passed-size (sizes s ws) board-sound.passed items-words in
        let closed = simp length-append at (ap length board-sound.closed) in
        omega arith

    -- a board has at most 262,144 words
    pub export-fits : length (export_text h) < 8 * word_limit
    export-fits = omega (arith, export-size, board-sound.short)

-- ---- two of them

module _ (s : Hashes) (ws vs roll : List ℕ) (index ballots : ℕ) (g : History) (a : audit (format_of s ws) ws vs roll index ballots ≡ accepted g)
    (ws' vs' roll' : List ℕ) (index' ballots' : ℕ) (h : History) (b : audit (format_of s ws') ws' vs' roll' index' ballots' ≡ accepted h)
    (w : AreWords ws) (w' : AreWords ws') where
  kept : Sound (format_of s ws) ws vs roll g
  kept = board-sound s ws vs roll index ballots g a

  later : Sound (format_of s ws') ws' vs' roll' h
  later = board-sound s ws' vs' roll' index' ballots' h b

  pub same-export : (export_text g ≡ export_text h) ↔ (map unsigned (main_items g) ≡ map unsigned (main_items h))
  same-export = (
    λ e. sym (export-read s ws vs roll index ballots g a w) ∙ ap (λ (t : List ℕ). map decode (lines_in t)) e
        ∙ export-read s ws' vs' roll' index' ballots' h b w',
    export-alone g h,
  )

  pub same_format : export_text g ≡ export_text h → format_of s ws ≡ format_of s ws'
  same_format e = main-format s kept later (same-export.0 e)

  -- compared at the last main item of the later one
  compared_same : (comparing_answer (accepted g) (accepted h) (count main h) ≡ compared same)
      ↔ (map unsigned (main_items g) ≡ map unsigned (main_items h))
  compared_same =
      let n = mains-count h in
      let one : 1 ≤ count main h = omega (arith, main-opened h (orderly later.passed) later.opened) in
      let all = take_all (count main h) (main_items h) (omega arith) in
      Iff.trans (answered (one-hash s ws ws') kept later (count main h) one (omega arith)).same-is
      (rw all at (same-unsigned (main_items g) (main_items h) (count main h) one (omega arith)))

  pub same-compared : (export_text g ≡ export_text h) ↔ (comparing_answer (accepted g) (accepted h) (count main h) ≡ compared same)
  same-compared = Iff.trans same-export (Iff.symm compared_same)
