-- What the fingerprint is fed: the main number of a row leads to a ballot on the board, whose content is the vote's. Assumes nothing.
use Prim.Native.Nat.{ℕ, zero, suc, ◌+◌, ◌≤◌, ◌<◌}
use native.Mathlib.Nat.{add-zero, mod-lt}
use native.Mathlib.Numerals.{add-one}
use native.Mathlib.Omega.{arith}
use mathlib.Core.Path.{◌≡◌, sym, ap, ◌∙◌}
use mathlib.Core.List.{List, [], ◌∷◌, ◌++◌, map, append_assoc, append-nil}
use lib.ListN.{length, get_or, take}
use lib.Seq.{take-suc, take_all}
use lib.Dec.{T, lit<}
use Rattle.model.specs.Lists.{if◌then◌otherwise◌, part, count}
use Rattle.model.specs.Words.{kind_of, count_of}
use Rattle.model.specs.Item as model
use Rattle.model.specs.Format.{Format}
use Rattle.model.specs.History.{History, Entry, absent, entry, item_no, main, main_number, typed}
use Rattle.model.specs.Counted.{Vote, vote_of, votes_in, same_voter, counted, contents}
use Rattle.model.specs.Roll.{Eligibility}
use Rattle.model.specs.Sound.{Passed}
use Rattle.model.proofs.Tests.{by-test, is_true}
use Rattle.model.proofs.Parts.{length_part}
use Rattle.model.proofs.Lists.{Every, every-at, every-keep, every-latest}
use Rattle.model.proofs.Entries.{Fine, orderly, each-fine, typed-main}
use Rattle.model.proofs.Unchecked.{length-history}
use Rattle.sha256.specs.declared.Hash.{Hash}
use Rattle.sha256.specs.State.{fed, Holds}
use Rattle.sha256.proofs.Holds.{holds-fed}
use Rattle.format.specs.Format.{format_of}
use Rattle.format.specs.Layout.{item_of}
use Rattle.format.proofs.Places.{content-is}
use Rattle.index.specs.declared.Known.{Known}
use Rattle.index.specs.Kept.{before, Kept}
use Rattle.index.specs.Known.{IsKnown}
use Rattle.index.proofs.Reading.{known-item, known-within}
use Rattle.lookup.specs.Search.{main_from, main_entry}
use Rattle.state.specs.declared.State.{State}
use Rattle.state.specs.Stands.{Stands}
use Rattle.tally.specs.Tallied.{Tallied}
use Rattle.tally.specs.Rows.{row_words}
use Rattle.tally.proofs.Table.{none, row-ballot}

-- ---- main numbers lead to main items

no_main : T (main absent) → ⊥
unfolding kind_of
no_main t = t

-- there is at least one main item up to a main item
some-main : (es : List Entry) (k : ℕ) → T (main (get_or es k absent)) → 1 ≤ count main (take (suc k) es)
unfolding count if◌then◌otherwise◌
some-main [] k t = absurd (no_main t)
some-main (e ∷ es) zero t = rw (is_true (main e) t) (omega arith)
some-main (e ∷ es) (suc k) t =
    let rest = some-main es k t in
    by-test (main e) (λ q. rw q (omega arith)) (λ q. rw q rest)

turn : (j m : ℕ) (e : Entry) (es : List Entry) → 1 ≤ m
    → main_from j (if main e then suc m otherwise m) (e ∷ es) ≡ main_from (suc j) m es
unfolding main_from if◌then◌otherwise◌
turn j zero e es l = absurd (omega arith)
turn j (suc zero) e es l = by-test (main e) (λ q. rw (q, q)) (λ q. rw (q, q))
turn j (suc (suc m)) e es l = by-test (main e) (λ q. rw (q, q)) (λ q. rw (q, q))

main-from : (j : ℕ) (es : List Entry) (k : ℕ) → T (main (get_or es k absent)) → main_from j (count main (take (suc k) es)) es ≡ j + k
unfolding main_from count if◌then◌otherwise◌
main-from j [] k t = absurd (no_main t)
main-from j (e ∷ es) zero t = rw (is_true (main e) t, is_true (main e) t, add-zero)
main-from j (e ∷ es) (suc k) t =
    let next : suc j + k ≡ j + suc k = omega arith in
    turn j (count main (take (suc k) es)) e es (some-main es k t) ∙ main-from (suc j) es k t ∙ next

pub main_entry-is : (h : History) (k : ℕ) → T (main (entry h k)) → main_entry h (main_number h k) ≡ k
unfolding entry
main_entry-is h zero t = absurd (no_main t)
main_entry-is h (suc k) t = main-from 1 h k t ∙ omega arith

-- ---- the ballots of the votes that count

-- the main number of the vote's ballot leads to an item with its content
pub record Found (h : History) (x : Vote) : Type 0 where
  pub some : 1 ≤ main_entry h x.ballot
  pub inside : main_entry h x.ballot ≤ length h
  pub content : (item_no h (main_entry h x.ballot)).content ≡ x.content

cast-found : {f : Format} {h : History} (e : Entry) → Fine f h e → T (typed 20 e) → Found h (vote_of h e)
unfolding vote_of
cast-found {f} {h} e a t =
    let number : main_entry h (main_number h e.parent) ≡ e.parent = main_entry-is h e.parent (a.parent-main (typed-main a 20 (omega arith) t)) in
    record {
      some = rw number a.parent-some;
      inside = rw number a.parent_in;
      content = ap (λ (k : ℕ). (item_no h k).content) number;
    }

counted-found : {f : Format} {on : Eligibility} {ws vs : List ℕ} {h : History} → Passed f on ws vs h → Every (Found h) (counted h)
unfolding counted
counted-found {h = h} b =
    every-latest same_voter (Found h) (votes_in h h)
    (every-keep (typed 20) (vote_of h) (Found h) h (each-fine (orderly b) _ cast-found))

-- ---- the message, vote by vote

contents-snoc : (xs : List Vote) (x : Vote) → contents (xs ++ (x ∷ [])) ≡ contents xs ++ x.content
unfolding contents
contents-snoc [] x = append-nil x.content
contents-snoc (y ∷ ys) x = rw (contents-snoc ys x, append_assoc)

-- ---- a content on the board

module _ {board : List ℕ} {e : Entry} {r : Known} (k : IsKnown board e r) where
  content-short : r.item.head.count ≤ 65535
  unfolding item_of count_of
  content-short = rw (known-item k) (omega (arith, mod-lt (get_or board e.place 0) {m = 65536} (lit< tt)))

  pub content-few : length (part r.item.content r.item.head.count board) ≤ 65535
  content-few = omega (arith, content-short, length_part r.item.content r.item.head.count board (known-within k).content)

  content-words : part r.item.content r.item.head.count board ≡ e.item.content
  content-words = rw (known-item k) (content-is board e.place) ∙ ap (λ (i : model.Item). i.content) (sym k.item)

-- ---- the rows, one by one

module _ {board index ballots : List ℕ} {s : State} (kept : Kept board index s.items) (stands : Stands board s)
    (t : Tallied board ballots s.items) where
  pub message-all : (k : ℕ) → k ≡ s.ballots → take k (counted (before board s.items)) ≡ counted (before board s.items)
  message-all k e = take_all k (counted (before board s.items)) (omega (arith, stands.ballots))

  -- row k leads to its ballot
  module _ (k : ℕ) (more : k < s.ballots) where
    vote : Vote
    vote = get_or (counted (before board s.items)) k none

    vote-found : Found (before board s.items) vote
    unfolding vote
    vote-found = every-at _ (counted (before board s.items)) k none (counted-found kept.passed) (omega (arith, stands.ballots))

    module _ (rows : List (List ℕ)) (are : rows ≡ map row_words (counted (before board s.items)))
        (item : ℕ) (found : item ≡ main_entry (before board s.items) (get_or (get_or rows k []) 0 0)) where
      number_is : get_or (get_or rows k []) 0 0 ≡ vote.ballot
      unfolding vote
      number_is =
          ap (λ (ws : List (List ℕ)). get_or (get_or ws k []) 0 0) are
          ∙ row-ballot (counted (before board s.items)) k [] (omega (arith, stands.ballots))

      pub item_in : (1 ≤ item) × (item ≤ s.items)
      item_in = rw (found, number_is) (vote-found.some, omega (arith, vote-found.inside, length-history (format_of board) board s.items))

      -- the hash was fed one more content
      pub message-more : (e : Known) → IsKnown board (entry (before board s.items) item) e → (a b : Hash)
          → b ≡ fed a (part e.item.content e.item.head.count board)
          → Holds a (contents (take k (counted (before board s.items)))) → Holds b (contents (take (k + 1) (counted (before board s.items))))
      unfolding vote
      message-more e known a b next-hash h =
          let xs = counted (before board s.items) in
          let same : (entry (before board s.items) item).item.content ≡ (get_or xs k none).content =
          ap (λ (m : ℕ). (item_no (before board s.items) m).content) (found ∙ ap (main_entry (before board s.items)) number_is) ∙ vote-found.content in
          let next : contents (take (k + 1) xs) ≡ contents (take k xs) ++ (get_or xs k none).content =
          rw (add-one k, take-suc xs k none (omega (arith, stands.ballots))) (contents-snoc (take k xs) (get_or xs k none)) in
          rw (next, ← same, ← content-words known) (holds-fed (part e.item.content e.item.head.count board) h next-hash)
