-- Verdicts and keys over plain lists: what the words at a verdict's place say, and a key fingerprint within an item's content.
-- Assumes nothing.
use Prim.Native.Nat.{ℕ, zero, suc, ◌+◌, ◌-◌, min, ◌*◌, ◌/◌, ◌%◌, ◌^◌, ◌≤◌, ◌<◌}
use native.Mathlib.Nat.{not-suc-le-zero, add-zero}
use native.Mathlib.Omega.{arith}
use mathlib.Core.Path.{◌≡◌, refl, sym, ap, ◌∙◌}
use mathlib.Core.Bool.{Bool, false, ◌&&◌}
use mathlib.Core.List.{List, [], ◌∷◌}
use lib.ListN.{length, get_or, take, drop, length-take, length-drop, get_or-eq_default}
use lib.Seq.{take_all}
use lib.Dec.{T, eqb, leb, lit<}
use borrow.Author.Tests.{eq-eqb, ne_eqb}
use Rattle.model.specs.Lists.{part}
use Rattle.model.specs.Words.{kind_of, same_words, verdict_kind}
use Rattle.model.specs.Format.{key_size, verdict_size}
use Rattle.model.specs.Item.{Item}
use Rattle.model.specs.History.{History, Entry, absent, entry, item_no, history}
use Rattle.model.specs.Keys.{opening, key_at, key_of, verdict_ok, key_ok, signature_ok}
use Rattle.model.proofs.Numbers.{entry-none}
use Rattle.model.proofs.Unchecked.{length-history}
use Rattle.model.proofs.Tests.{is_false, same-iff, facts}
use Rattle.model.proofs.Parts.{length_part, part-part}
use Rattle.format.specs.declared.item.Item as layout
use Rattle.format.specs.declared.table.Writer.{Writer}
use Rattle.format.specs.declared.table.Writer.TheVariants.{Administrator, BallotBox, Authorizer, Voter, Verifier}
use Rattle.format.specs.Format.{format_of}
use Rattle.format.specs.Table.{writer_of}
use Rattle.format.proofs.Places.{content-is}
use Rattle.index.specs.declared.Known.{Known}
use Rattle.index.specs.Kept.{before, item_after}
use Rattle.index.specs.Known.{IsKnown}
use Rattle.index.proofs.Reading.{known-item}
use Rattle.state.specs.declared.State.{State}
use Rattle.state.specs.Stands.{AtItem}
use Rattle.state.proofs.At.{at-session, at_places, at-content-words}
use Rattle.words.proofs.Runs.{get_or-part, slice-part}
use Rattle.keys.specs.Verdicts.{verdict_at}

-- ---- parts of parts

length-any-part : (p n : ℕ) (l : List ℕ) → length (part p n l) ≡ min n (length l - p)
unfolding part
length-any-part p n l = simp (length-take, length-drop)

all-behind : (v : List ℕ) → length v ≡ verdict_size → part 1 key_size v ≡ drop 1 v
unfolding part
all-behind v size = take_all key_size (drop 1 v) (omega (arith, length-drop 1 v))

-- parts of different lengths are not the same
other_length : (xs ys : List ℕ) → (length xs ≡ length ys → ⊥) → same_words xs ys ≡ false
other_length xs ys e = is_false (same_words xs ys) (λ t. e (ap length ((same-iff xs ys).0 t)))

-- ---- the verdict of the item after the first n

module _ (vs : List ℕ) (n : ℕ) where
  abbrev verdict : List ℕ
  verdict = verdict_at vs n

  first_word : get_or verdict 0 0 ≡ get_or vs (verdict_size * n) 0
  first_word = get_or-part vs (verdict_size * n) verdict_size 0 (lit< tt) ∙ rw add-zero

  length-verdict : length verdict ≡ min verdict_size (length vs - verdict_size * n)
  length-verdict = length-any-part (verdict_size * n) verdict_size vs

  -- some of its words are missing
  pub verdict-missing : length vs < verdict_size * n + verdict_size → false ≡ verdict_ok verdict
  unfolding verdict_ok
  verdict-missing l = rw (ne_eqb (length verdict) verdict_size (λ e. omega (arith, length-verdict)))

  -- all are there
  pub verdict-there : (v : List ℕ) → v ≡ take (verdict_size * n + verdict_size - verdict_size * n) (drop (verdict_size * n) vs) → length v ≡ verdict_size
      → (eqb (get_or v 0 0 / 2 ^ 28) verdict_kind && leb (get_or v 0 0 % 2 ^ 28) 1) ≡ verdict_ok verdict
  unfolding verdict_ok kind_of
  verdict-there v is size =
      let whole : v ≡ verdict = is ∙ slice-part vs (verdict_size * n) verdict_size (verdict_size * n + verdict_size) refl in
      rw (← whole, eq-eqb _ _ size)

  pub verdict-whole : T (verdict_ok verdict) → verdict_size * n + verdict_size ≤ length vs
  unfolding verdict_ok
  verdict-whole t = let u = simp facts at t in omega (arith, length-verdict)

  pub signature-is : eqb (get_or vs (verdict_size * n) 0 % 2) 1 ≡ signature_ok verdict
  unfolding signature_ok
  signature-is = rw first_word

  -- the words behind the first are its key fingerprint
  pub key-is : (own key : List ℕ) → own ≡ part (verdict_size * n + 1) key_size vs → T (verdict_ok verdict) → same_words own key ≡ key_ok verdict key
  unfolding key_ok
  key-is own key is t =
      let whole = verdict-whole t in
      let size = length_part (verdict_size * n) verdict_size vs whole in
      let rest : part 1 key_size verdict ≡ drop 1 verdict = all-behind verdict size in
      rw (is, ← rest, part-part 1 key_size (verdict_size * n) verdict_size vs (omega arith))

-- ---- a key fingerprint within a content

pub key-found : (key content : List ℕ) (k : ℕ) (found : List ℕ) → found ≡ take (k + key_size - k) (drop k content)
    → same_words key found ≡ same_words key (part k key_size content)
key-found key content k found is = rw (is, slice-part content k key_size (k + key_size) refl)

module _ (key : List ℕ) (whole : length key ≡ key_size) where
  pub key-short : (content : List ℕ) (k : ℕ) → length content < k + key_size → false ≡ same_words key (part k key_size content)
  key-short content k l = sym (other_length key (part k key_size content) (λ e. omega (arith, length-any-part k key_size content)))

  -- an absent item has no content
  no_key : (k : ℕ) (e : Entry) → e ≡ absent → false ≡ same_words key (key_at k e.item)
  no_key k e q = key-short e.item.content k (omega (arith, ap (λ (x : Entry). length x.item.content) q))

  module _ (h : History) (k : ℕ) where
    pub key-none : (number : ℕ) → number ≡ 0 → false ≡ same_words key (key_at k (item_no h number))
    key-none number q = no_key k (entry h number) (ap (entry h) q ∙ entry-none h)

    pub key-past : (number : ℕ) → length h < number → false ≡ same_words key (key_at k (item_no h number))
    unfolding entry
    key-past zero l = absurd (not-suc-le-zero l)
    key-past (suc number) l = no_key k (entry h (suc number)) (get_or-eq_default h absent (omega arith))

module _ {board : List ℕ} {e : Entry} {r : Known} (is : IsKnown board e r) where
  -- the content of an earlier item
  known-content : part r.item.content r.item.head.count board ≡ e.item.content
  known-content =
      ap (λ (i : layout.Item). part i.content i.head.count board) (known-item is)
      ∙ content-is board e.place
      ∙ ap (λ (i : Item). i.content) (sym is.item)

  pub key-known : (key : List ℕ) (k : ℕ)
      → same_words key (part k key_size (part r.item.content r.item.head.count board)) ≡ same_words key (key_at k e.item)
  key-known key k = rw known-content

opening-own : (board : List ℕ) (n : ℕ) (i : Item) → n ≡ 0 → opening (before board n) i ≡ i
unfolding opening history
opening-own board n i q = rw q

opening-first : (h : History) (i : Item) → (length h ≡ 0 → ⊥) → opening h i ≡ item_no h 1
unfolding opening entry
opening-first [] i q = absurd (q refl)
opening-first (e ∷ es) i q = refl

-- ---- the item that is judged

module _ {board index : List ℕ} {s : State} {c : Known} (a : AtItem board index s c) where
  abbrev h : History
  h = before board s.items

  abbrev i : Item
  i = item_after board s.items

  abbrev content : List ℕ
  content = part c.item.content c.item.head.count board

  pub content-within : c.item.content + c.item.head.count ≤ length board
  content-within = let places = at_places a in omega arith

  -- item 1 is the first item itself, and later an earlier item
  module _ (key : List ℕ) (k : ℕ) where
    pub key-opening-own : s.items ≡ 0 → same_words key (part k key_size content) ≡ same_words key (key_at k (opening h i))
    key-opening-own q = rw (at-content-words a, opening-own board s.items i q)

    pub key-opening-first : (s.items ≡ 0 → ⊥) → same_words key (key_at k (item_no h 1)) ≡ same_words key (key_at k (opening h i))
    key-opening-first q = rw (opening-first h i (λ e. q (sym (length-history (format_of board) board s.items) ∙ e)))

  -- the key of each writer
  module _ (vs own : List ℕ) (is : own ≡ part (verdict_size * s.items + 1) key_size vs) (whole : T (verdict_ok (verdict vs s.items))) (w : Writer) where
    abbrev Answer : Bool
    Answer = key_ok (verdict vs s.items) (key_of h (writer_of w) i)

    pub key-administrator : w ≡ Administrator → same_words own (key_at 1 (opening h i)) ≡ Answer
    unfolding key_of
    key-administrator q = key-is vs s.items own (key_at 1 (opening h i)) is whole ∙ rw q

    pub key-ballot-box : w ≡ BallotBox → same_words own (key_at (1 + key_size) (opening h i)) ≡ Answer
    unfolding key_of
    key-ballot-box q = key-is vs s.items own (key_at (1 + key_size) (opening h i)) is whole ∙ rw q

    pub key-authorizer : w ≡ Authorizer → same_words own (key_at 1 (item_no h s.authorizer)) ≡ Answer
    unfolding key_of
    key-authorizer q = key-is vs s.items own (key_at 1 (item_no h s.authorizer)) is whole ∙ rw (q, a.stands.authorizer)

    pub key-voter : w ≡ Voter → same_words own (key_at 2 (item_no h c.session)) ≡ Answer
    unfolding key_of
    key-voter q = key-is vs s.items own (key_at 2 (item_no h c.session)) is whole ∙ rw (q, at-session a)

    pub key-verifier : w ≡ Verifier → same_words own (part 0 key_size content) ≡ Answer
    unfolding key_of
    key-verifier q = key-is vs s.items own (part 0 key_size content) is whole ∙ rw (q, at-content-words a)
