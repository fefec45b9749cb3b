-- Where a check stands: what is known of the item is what the model says of it, the words at its places are its parts, and the numbers of
-- its parent, of its session and of the last main item lie in range. Assumes nothing.
use Prim.Native.Nat.{ℕ, zero, suc, ◌+◌, ◌≤◌, ◌<◌, zero-le}
use native.Mathlib.Nat.{le_refl, not-suc-le-zero}
use native.Mathlib.Omega.{arith}
use mathlib.Core.Path.{◌≡◌, refl, sym, ap, ◌∙◌}
use mathlib.Core.Logic.{◌≢◌}
use mathlib.Core.Bool.{Bool}
use mathlib.Core.List.{List, [], ◌∷◌}
use lib.ListN.{length, get_or, replicate}
use lib.Dec.{T, eqb, eqb-suc-zero}
use borrow.Author.Tests.{eq-eqb, ne_eqb}
use Rattle.model.specs.Lists.{if◌then◌otherwise◌, part, keep}
use Rattle.model.specs.Words.{kind_of, count_of, pair}
use Rattle.model.specs.Codes.{genesis_type, session_type}
use Rattle.model.specs.Format.{time_size}
use Rattle.model.specs.Types.{Listed}
use Rattle.model.specs.Item.{item_at, item_length, hashed_length, hashed, code, time, word}
use Rattle.model.specs.History.{History, Entry, entry, item_no, last, last_from, main, typed, main_item, last_main, end_after, end_address, place_of, history, entry_of, parent_number, session_number}
use Rattle.model.proofs.Tests.{by-test}
use Rattle.model.proofs.Numbers.{entry-append, entry-snoc}
use Rattle.model.proofs.Entries.{Fine, fine-at, orderly, parent-bound, session-genesis, session-own, session-up}
use Rattle.model.proofs.State.{last_snoc, last_main-snoc, end_address-snoc}
use Rattle.model.proofs.Unchecked.{length-history}
use Rattle.format.specs.Format.{format_of}
use Rattle.format.specs.Layout.{item_of}
use Rattle.format.specs.declared.item.Item.{Item}
use Rattle.format.proofs.Places.{content-is, parent_is, previous-is, stamp-is, time-is, signature-is, address_is, hashed-is}
use Rattle.index.specs.Kept.{before, item_after}
use Rattle.index.specs.declared.Known.{Known}
use Rattle.index.proofs.Counts.{has_words, words-law}
use Rattle.state.specs.declared.State.{State}
use Rattle.state.specs.Stands.{Stands, AtItem}
use Rattle.state.proofs.Next.{Next, next-item, next-parent, next-session, next-kind, next-code, next_word}

-- ---- the item at hand

module _ {board index : List ℕ} {s : State} {c : Known} (a : AtItem board index s c) where
  abbrev h : History
  h = before board s.items

  pub at_next : Next board s.items c
  unfolding entry_of place_of item_of
  at_next =
      let known = rw a.stands.place at a.known in
      record { known = known; within = rw (ap (λ (k : Known). k.item.end) known) at a.within }

  pub at-kind : c.item.head.kind ≡ kind_of (item_after board s.items).head
  at-kind = next-kind at_next

  pub at_code : c.item.head.code ≡ code (item_after board s.items)
  at_code = next-code at_next

  pub at_count : c.item.head.count ≡ count_of (item_after board s.items).head
  unfolding item_of item_at
  at_count = ap (λ (i : Item). i.head.count) (next-item at_next)

  pub at-parent : c.parent ≡ parent_number (before board s.items) (item_after board s.items)
  at-parent = next-parent at_next

  pub at-session : c.session ≡ session_number (before board s.items) (item_after board s.items)
  at-session = next-session at_next

  -- its places, each behind the last
  pub record Places : Type 0 where
    pub place : c.item.place ≡ s.place
    pub content : c.item.content ≡ s.place + 1
    pub parent : c.item.parent ≡ c.item.content + c.item.head.count
    pub previous : c.item.previous ≡ c.item.parent + (format_of board).address
    pub time : c.item.time ≡ c.item.previous + (format_of board).address
    pub signature : c.item.signature ≡ c.item.time + 2
    pub address : c.item.address ≡ c.item.signature + (format_of board).signature
    pub end : c.item.end ≡ c.item.address + (format_of board).address
    pub within : c.item.end ≤ length board

  pub at_places : Places
  unfolding item_of item_length
  at_places =
      let at : c.item ≡ item_of board (place_of (format_of board) board s.items) = next-item at_next in
      record {
        place = rw (at, a.stands.place);
        content = rw (at, a.stands.place);
        parent = rw at;
        previous = rw at;
        time = rw at;
        signature = rw at;
        address = rw at;
        end = rw at (omega arith);
        within = a.within;
      }

  -- the words at its places are its parts
  pub at-content-words : part c.item.content c.item.head.count board ≡ (item_after board s.items).content
  at-content-words = rw (next-item at_next) (content-is board (place_of (format_of board) board s.items))

  pub at-parent-words : part c.item.parent (format_of board).address board ≡ (item_after board s.items).parent
  at-parent-words = rw (next-item at_next) (parent_is board (place_of (format_of board) board s.items))

  pub at-previous-words : part c.item.previous (format_of board).address board ≡ (item_after board s.items).previous
  at-previous-words = rw (next-item at_next) (previous-is board (place_of (format_of board) board s.items))

  pub at-stamp : part c.item.time time_size board ≡ (item_after board s.items).stamp
  at-stamp = rw (next-item at_next) (stamp-is board (place_of (format_of board) board s.items))

  pub at-time : pair (part c.item.time time_size board) ≡ time (item_after board s.items)
  at-time = rw (next-item at_next) (time-is board (place_of (format_of board) board s.items))

  pub at-signature-words : part c.item.signature (format_of board).signature board ≡ (item_after board s.items).signature
  at-signature-words = rw (next-item at_next) (signature-is board (place_of (format_of board) board s.items))

  pub at-address-words : part c.item.address (format_of board).address board ≡ (item_after board s.items).address
  at-address-words = rw (next-item at_next) (address_is board (place_of (format_of board) board s.items))

  pub at-hashed : part c.item.place (hashed_length (format_of board) c.item.head.count) board ≡ hashed (item_after board s.items)
  unfolding item_of
  at-hashed = rw (next-item at_next) (hashed-is board (place_of (format_of board) board s.items) (rw (next-item at_next) at a.within))

  -- content word k, where there is one
  pub at-word : (k : ℕ) → k < c.item.head.count
      → (c.item.content + k < length board) × (get_or board (c.item.content + k) 0 ≡ word k (item_after board s.items))
  at-word k l = next_word at_next k (rw at_count at l)

  -- its type is listed, and it has as many content words as that allows
  pub at_listed : Listed (format_of board) (item_after board s.items).head
  unfolding item_at
  at_listed = rw a.stands.place at a.listed

  pub at_words : (t low high : ℕ) → T (has_words t low high) → c.item.head.code ≡ t
      → (low ≤ c.item.head.count) × (c.item.head.count ≤ high)
  unfolding item_at
  at_words t low high b q =
      rw (at_count, ← a.stands.place)
      (words-law board t low high (count_of (get_or board s.place 0)) b a.listed (rw a.stands.place (sym at_code ∙ q)) a.counted)

  -- ---- the items before it

  -- an item of the history has a parent and a session that are in it
  pub at-fine : (k : ℕ) → 1 ≤ k → k ≤ s.items → Fine (format_of board) (before board s.items) (entry (before board s.items) k)
  at-fine k l m = fine-at (orderly a.kept.passed) k l (omega (arith, length-history (format_of board) board s.items))

  -- the parent is one of them, or none; genesis has its own number
  pub parent-in-range : c.item.head.code ≢ genesis_type → c.parent ≤ s.items
  parent-in-range q =
      let later = ne_eqb (code (item_after board s.items)) genesis_type (rw at_code at q) in
      rw at-parent (omega (arith, parent-bound h (item_after board s.items) later, length-history (format_of board) board s.items))

  -- a session has its own number
  pub own-session : c.item.head.code ≡ session_type → c.session ≡ s.items + 1
  own-session q =
      let i = item_after board s.items in
      let size = length-history (format_of board) board s.items in
      let is : code i ≡ session_type = sym at_code ∙ q in
      rw at-session (omega (arith, session-own h i (ne_eqb (code i) genesis_type (λ e. omega arith)) (eq-eqb (code i) session_type is)))

  -- what is said of an earlier item's session, and of an absent one
  abbrev Session : ℕ → Type 0
  Session k = (k ≤ s.items) × (1 ≤ k → T (typed session_type (entry (before board s.items) k)))

  no-session : Session 0
  no-session = (zero-le, λ l. absurd (not-suc-le-zero l))

  session-of : (k : ℕ) → k ≤ s.items → Session (entry (before board s.items) k).session
  unfolding entry
  session-of zero l = no-session
  session-of (suc k) l =
      let fine = at-fine (suc k) (omega arith) l in
      (omega (arith, fine.session-in, length-history (format_of board) board s.items), fine.session-typed)

  -- any other item has that of an earlier session, or none
  earlier-session : c.item.head.code ≢ session_type → Session c.session
  earlier-session q =
      let i = item_after board s.items in
      let none = ne_eqb (code i) session_type (rw at_code at q) in
      rw at-session
      (by-test (eqb (code i) genesis_type)
      (λ g. rw (session-genesis h i g) no-session)
      (λ g. rw (session-up h i g none) (session-of (parent_number h i) (omega (arith, parent-bound h i g, length-history (format_of board) board s.items)))))

  pub session-in-range : c.item.head.code ≢ session_type → c.session ≤ s.items
  session-in-range q = (earlier-session q).0

  pub session-is : c.item.head.code ≢ session_type → 1 ≤ c.session → T (typed session_type (entry (before board s.items) c.session))
  session-is q = (earlier-session q).1

-- ---- the last main item

last-bound-from : (p : Entry → Bool) (k found : ℕ) (es : List Entry) → found ≤ k → last_from (suc k) found p es ≤ k + length es
unfolding last_from if◌then◌otherwise◌
last-bound-from p k found [] l = omega arith
last-bound-from p k found (e ∷ es) l =
    by-test (p e)
    (λ q. rw q (omega (arith, last-bound-from p (suc k) (suc k) es (le_refl (suc k)))))
    (λ q. rw q (omega (arith, last-bound-from p (suc k) found es (omega arith))))

pub last-bound : (p : Entry → Bool) (h : History) → last p h ≤ length h
last-bound p h = omega (arith, last-bound-from p 0 0 h (le_refl 0))

module _ (board : List ℕ) where
  -- it stands under its number, and its address is the end address; without one that is zeros
  last_main-entry : (n : ℕ) → last_main (before board n) ≡ item_no (before board n) (last main (before board n))
  unfolding history last_from keep main_item entry if◌then◌otherwise◌
  last_main-entry zero = refl
  last_main-entry (suc n) =
      let h = before board n in
      let e = entry_of h (place_of (format_of board) board n) (item_after board n) in
      by-test (main e)
      (λ q. rw (last_main-snoc h e, last_snoc main h e, q) (ap (λ (x : Entry). x.item) (sym (entry-snoc h e))))
      (λ q. rw (last_main-snoc h e, last_snoc main h e, q)
      (last_main-entry n ∙ ap (λ (x : Entry). x.item) (sym (entry-append h (e ∷ []) (last main h) (last-bound main h)))))

  end_empty : end_address (format_of board) [] ≡ replicate (format_of board).address 0
  unfolding end_address end_after keep
  end_empty = refl

  end_address-entry : (n : ℕ)
      → end_address (format_of board) (before board n)
      ≡ (if eqb (last main (before board n)) 0 then replicate (format_of board).address 0 otherwise (item_no (before board n) (last main (before board n))).address)
  unfolding history last_from if◌then◌otherwise◌
  end_address-entry zero = end_empty
  end_address-entry (suc n) =
      let h = before board n in
      let e = entry_of h (place_of (format_of board) board n) (item_after board n) in
      by-test (main e)
      (λ q. rw (end_address-snoc h e (format_of board), last_snoc main h e, q, eqb-suc-zero (length h))
      (ap (λ (x : Entry). x.item.address) (sym (entry-snoc h e))))
      (λ q. rw (end_address-snoc h e (format_of board), last_snoc main h e, q) (end_address-entry n
      ∙ ap (λ (x : Entry). if eqb (last main h) 0 then replicate (format_of board).address 0 otherwise x.item.address)
      (sym (entry-append h (e ∷ []) (last main h) (last-bound main h)))))

module _ {board : List ℕ} {s : State} (a : Stands board s) where
  pub last-in-range : s.last ≤ s.items
  last-in-range = rw a.last (omega (arith, last-bound main (before board s.items), length-history (format_of board) board s.items))

  pub last-item : last_main (before board s.items) ≡ item_no (before board s.items) s.last
  last-item = rw a.last (last_main-entry board s.items)

  pub end_none : s.last ≡ 0 → end_address (format_of board) (before board s.items) ≡ replicate (format_of board).address 0
  unfolding if◌then◌otherwise◌
  end_none q = end_address-entry board s.items ∙ rw (eq-eqb _ _ (sym a.last ∙ q))

  pub end-last : s.last ≢ 0 → end_address (format_of board) (before board s.items) ≡ (item_no (before board s.items) s.last).address
  unfolding if◌then◌otherwise◌
  end-last q = end_address-entry board s.items ∙ rw (← a.last, ne_eqb _ _ q)
