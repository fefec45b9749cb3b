-- The first item of a sound board is a genesis, and the format of the board is the one that its traits say. Paper: requests (v), (ix).
-- Assumes nothing.
use Prim.Native.Nat.{ℕ, zero, suc, ◌+◌, ◌-◌, ◌*◌, ◌%◌, ◌^◌, ◌≤◌, ◌<◌}
use native.Mathlib.Nat.{not-suc-le-zero}
use native.Mathlib.Omega.{arith}
use mathlib.Core.Path.{◌≡◌, refl, sym, ap, ◌∙◌}
use mathlib.Core.Logic.{◌≢◌, ◌↔◌}
use mathlib.Core.Bool.{Bool, ◌&&◌}
use mathlib.Core.List.{List, [], ◌∷◌}
use lib.ListN.{length, get_or, take, drop, length-take, length-drop, get_or-eq_default}
use lib.Seq.{get_or-take, get_or-drop, take_all}
use lib.Dec.{T, eqb, ltb, eqb→eq}
use borrow.Author.Tests.{eqb-true, eqb-false, eq-eqb, le-leb}
use Rattle.model.specs.Lists.{if◌then◌otherwise◌, ◌⇒◌, part, keep}
use Rattle.model.specs.Words.{kind_of, code_of, count_of, pair, member, size, all_in, low_zero}
use Rattle.model.specs.Format.{Format, Hashes}
use Rattle.model.specs.Traits.{traits_head, traits_known, traits_of, format_with, format_of}
use Rattle.model.specs.Item.{Item, item_at, code, word}
use Rattle.model.specs.Types.{table, Listed, fits}
use Rattle.model.specs.History.{History, Entry, entry, entry_of, item_no, main, main_item, place_of, session_contests}
use Rattle.model.specs.Phase.{round_contests, round_start, round_end}
use Rattle.model.specs.Content.{may_vote, cryptograms_ok, genesis_traits, genesis_ok, contest_ok, threshold_ok, authorizer_ok, round_ok, session_ok, commitment_ok, ballot_ok, fingerprint_ok, trustees_ok, content_ok}
use Rattle.model.specs.Roll.{Eligibility}
use Rattle.model.specs.Sound.{Shaped, Meets, Sound}
use Rattle.model.specs.Alone.{main_list}
use Rattle.model.proofs.Tests.{by-test, is_true, and-iff, leb-iff, eq→eqb, facts}
use Rattle.model.proofs.Traits.{known-few}
use Rattle.model.proofs.Sets.{set_all, set-counts}
use Rattle.model.proofs.Rules.{content-rules, and_nothing, alone}
use Rattle.model.proofs.Table.{main_code, count_type, count-type-law, count_within, count-within-law, count_set, set-count-law}
use Rattle.model.proofs.Entries.{Orderly, typed-main, first-genesis, orderly}
use Rattle.model.proofs.Keys.{session-count}
use Rattle.model.proofs.Unchecked.{entry-history, sound-history}
use Rattle.model.proofs.Beginnings.{made_at}

-- a head is its three fields
head-is : (w : ℕ) → kind_of w ≡ 1 → code_of w ≡ 1 → count_of w ≡ 18 → w ≡ traits_head
unfolding kind_of code_of count_of
head-is w k c n = omega arith

head-counts : count_of traits_head ≡ 18
unfolding count_of
head-counts = refl

-- an item that may stand first
module _ {f : Format} {on : Eligibility} {v : List ℕ} {i : Item} (m : Meets f on [] v i) where
  is-genesis : code i ≡ 1
  is-genesis = eqb→eq (code i) 1 (first-genesis m)

  is-main : kind_of i.head ≡ 1
  is-main = eqb-true (kind_of i.head) 1 (main_code m.listed ∙ le-leb (code i) 34 (omega (arith, is-genesis)))

  counts : (17 ≤ count_of i.head) × (count_of i.head ≤ 18)
  unfolding count_within table
  counts = count-within-law 1 17 18 (count_of i.head) tt m.listed is-genesis m.counted

  known : T (traits_known (genesis_traits i))
  unfolding genesis_ok
  known = simp facts at (content-rules m.content).genesis is-genesis

-- the traits of the item at the beginning of the words ws, where it may stand
traits-at : {f : Format} {on : Eligibility} {v : List ℕ} (ws : List ℕ) → Meets f on [] v (item_at f ws 0) → traits_of ws ≡ genesis_traits (item_at f ws 0)
unfolding traits_of item_at part if◌then◌otherwise◌
traits-at ws m =
    let n = count_of (get_or ws 0 0) in
    let range = counts m in
    by-test (eqb (get_or ws 0 0) traits_head)
    (λ q. let all : n ≡ 18 = ap count_of (eqb-true (get_or ws 0 0) traits_head q) ∙ head-counts in
    let read : get_or (take n (drop 1 ws)) 17 0 ≡ get_or ws 18 0 = rw all (get_or-take 18 (drop 1 ws) 17 0 (omega arith) ∙ get_or-drop 1 ws 17 0) in
    rw (q, read, is_true (traits_known (get_or ws 18 0)) (rw read at (known m))))
    (λ q. let other : n ≢ 18 = λ e. eqb-false (get_or ws 0 0) traits_head q (head-is (get_or ws 0 0) (is-main m) (is-genesis m) e) in
    let few : n ≤ 17 = omega arith in
    let past : length (take n (drop 1 ws)) ≤ 17 = simp length-take (omega arith) in
    rw (q, get_or-eq_default (take n (drop 1 ws)) 0 past))

-- it is the first main item
first-main : {f : Format} (h : History) → Orderly f h → 1 ≤ length h → genesis_traits (main_item (main_list h) 1) ≡ genesis_traits (item_no h 1)
unfolding main_item keep entry
first-main [] o l = absurd (omega arith)
first-main (e ∷ es) o l = rw (is_true (main e) (typed-main o.each.0 1 (omega arith) o.opens))

module _ {f : Format} {ws vs roll : List ℕ} {h : History} (s : Sound f ws vs roll h) where
  first-item : item_no h 1 ≡ item_at f ws 0
  unfolding entry_of place_of
  first-item =
      ap (λ (g : History). (entry g 1).item) (sound-history s)
      ∙ ap (λ (e : Entry). e.item) (entry-history f ws (length h) 0 s.opened)

  -- the traits in force are those of genesis
  pub traits-said : traits_of ws ≡ genesis_traits (item_no h 1)
  traits-said =
      let made = made_at s.passed 0 s.opened in
      rw first-item (traits-at ws (rw first-item at made.meets))

module _ (s : Hashes) where
  pub format-said : {f : Format} {ws vs roll : List ℕ} {h : History} → Sound f ws vs roll h
      → format_of s ws ≡ format_with s (genesis_traits (item_no h 1))
  format-said b = ap (format_with s) (traits-said b)

  -- boards with the same main items, signatures left aside, have the same format
  pub main-format : {f f' : Format} {ws vs roll us ts roll' : List ℕ} {g h : History} → Sound f ws vs roll g → Sound f' us ts roll' h
      → main_list g ≡ main_list h → format_of s ws ≡ format_of s us
  main-format {g = g} {h} a b e =
      ap (format_with s) (traits-said a
      ∙ sym (first-main g (orderly a.passed) a.opened)
      ∙ ap (λ (is : List Item). genesis_traits (main_item is 1)) e
      ∙ first-main h (orderly b.passed) b.opened
      ∙ sym (traits-said b))

-- ---- what check 13 says of a genesis and of a contest

module _ (f : Format) (h : History) (i : Item) where
  genesis-content : code i ≡ 1 → content_ok f h i ≡ traits_known (word 17 i)
  unfolding content_ok genesis_ok contest_ok threshold_ok authorizer_ok round_ok session_ok commitment_ok ballot_ok fingerprint_ok trustees_ok ◌⇒◌ and_nothing
  genesis-content c = rw c (alone 9 _)

  contest-content : code i ≡ 3 → content_ok f h i ≡ ltb (word 0 i) (32 * f.sets)
  unfolding content_ok genesis_ok contest_ok threshold_ok authorizer_ok round_ok session_ok commitment_ok ballot_ok fingerprint_ok trustees_ok ◌⇒◌ and_nothing
  contest-content c = rw c (alone 8 _)

  pub genesis-traits : code i ≡ 1 → T (content_ok f h i) ↔ (word 17 i < 6)
  genesis-traits c = rw (genesis-content c) (known-few (word 17 i))

  pub contest-numbers : code i ≡ 3 → T (content_ok f h i) ↔ (word 0 i < 32 * f.sets)
  contest-numbers c = rw (contest-content c) (leb-iff _ _)

-- ---- what it says of a ballot

-- the last words of n cryptograms
last-words : (w s n : ℕ) (c : List ℕ) → T (cryptograms_ok w s n c) ↔ ((k : ℕ) → k < n → get_or c (w + suc k * s - 1) 0 % 2 ^ 16 ≡ 0)
unfolding cryptograms_ok low_zero
last-words w s zero c = (λ t k l. absurd (not-suc-le-zero l), λ all. tt)
last-words w s (suc n) c =
    let (split, join) = and-iff (low_zero 16 (get_or c (w + suc n * s - 1) 0)) (cryptograms_ok w s n c) in (
      λ t k l. by-test (eqb k n)
          (λ q. rw (eqb-true k n q) (eqb→eq (get_or c (w + suc n * s - 1) 0 % 2 ^ 16) 0 (split t).0))
          (λ q. (last-words w s n c).0 (split t).1 k (omega (arith, eqb-false k n q))),
      λ all. join (eq→eqb (get_or c (w + suc n * s - 1) 0 % 2 ^ 16) 0 (all n (omega arith)), (last-words w s n c).1 (λ k l. all k (omega arith))),
    )

module _ (f : Format) (h : History) (i : Item) where
  abbrev contests : List ℕ
  contests = part 0 f.sets i.content

  abbrev size_is : Bool
  size_is = eqb (length i.content) (f.sets + size contests * f.cryptogram)

  ballot-content : code i ≡ 19
      → content_ok f h i ≡ (size_is && all_in contests (may_vote h i) && cryptograms_ok f.sets f.cryptogram (size contests) i.content)
  unfolding content_ok genesis_ok contest_ok threshold_ok authorizer_ok round_ok session_ok commitment_ok ballot_ok fingerprint_ok trustees_ok ◌⇒◌ and_nothing
  ballot-content c = rw c (alone 2 _)

  pub ballot-passes : code i ≡ 19 → T (content_ok f h i)
      ↔ ((length i.content ≡ f.sets + size contests * f.cryptogram)
      × ((j : ℕ) → T (member contests j) → T (may_vote h i j))
      × ((k : ℕ) → k < size contests → get_or i.content (f.sets + suc k * f.cryptogram - 1) 0 % 2 ^ 16 ≡ 0))
  ballot-passes c =
      let rest = cryptograms_ok f.sets f.cryptogram (size contests) i.content in
      let all = set_all contests (may_vote h i) in
      let low = last-words f.sets f.cryptogram (size contests) i.content in
      rw (ballot-content c) (
        λ t. let ((n, may), words) = simp and-iff at t in (eqb→eq _ _ n, all.0 may, low.0 words),
        λ (n, may, words). simp and-iff ((eq→eqb _ _ n, all.1 may), low.1 words),
      )

-- ---- where the words of a set stand

ballot-count : (f : Format) → T (count_set f 19 f.sets f.cryptogram)
unfolding count_set table
ballot-count f = rw (eq-eqb f.sets f.sets refl, eq-eqb f.cryptogram f.cryptogram refl) tt

pub round-count : (f : Format) → T (count_type f 6 (5 + f.sets))
unfolding count_type table
round-count f = rw (eq-eqb (5 + f.sets) (5 + f.sets) refl) tt

round-ends : (n w : ℕ) → n ≡ 5 + w → (n - 5 ≡ w) × (n - 4 ≡ 1 + w) × (n - 2 ≡ 3 + w)
round-ends n w e = (omega arith, omega arith, omega arith)

module _ {f : Format} {i : Item} (s : Shaped f i) (l : Listed f i.head) (c : T (fits l.row.counts (count_of i.head))) where
  words_are : (t n : ℕ) → T (count_type f t n) → code i ≡ t → length i.content ≡ n
  words_are t n b q = s.content ∙ count-type-law t n (count_of i.head) b l q c

  pub round-parts : code i ≡ 6 → let content = i.content in (length content ≡ 5 + f.sets)
      × (round_contests i ≡ part 1 f.sets content) × (round_start i ≡ pair (part (1 + f.sets) 2 content)) × (round_end i ≡ pair (part (3 + f.sets) 2 content))
  round-parts q =
      let n = words_are 6 (5 + f.sets) (round-count f) q in
      let c = i.content in
      let (set, start, end) = round-ends (length c) f.sets n in
      (n, ap (λ (k : ℕ). part 1 k c) set, ap (λ (k : ℕ). pair (part k 2 c)) start, ap (λ (k : ℕ). pair (part k 2 c)) end)

  pub session-parts : code i ≡ 16 → (length i.content ≡ 18 + f.sets) × (session_contests i ≡ part 18 f.sets i.content)
  unfolding part
  session-parts q =
      let n = words_are 16 (18 + f.sets) (session-count f) q in
      (n, sym (take_all f.sets (drop 18 i.content) (simp length-drop (omega arith))))

  pub ballot-parts : code i ≡ 19 → 1 ≤ f.cryptogram → (k : ℕ) × (1 ≤ k) × (k ≤ 32 * f.sets) × (length i.content ≡ f.sets + k * f.cryptogram)
  ballot-parts q one = rw s.content ((set-counts f.sets f.cryptogram (count_of i.head) one).0 (set-count-law 19 _ _ (count_of i.head) (ballot-count f) l q c))
