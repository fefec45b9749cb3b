-- The buckets that the code gives an item that passes are the definition's, and the chain tables with it are those of one item more.
-- Assumes nothing.
use Prim.Native.Nat.{ℕ, zero, suc, ◌+◌, ◌%◌, ◌≤◌, ◌<◌}
use native.Mathlib.Nat.{add-zero}
use native.Mathlib.Numerals.{add-one}
use native.Mathlib.Omega.{arith}
use mathlib.Core.Path.{◌≡◌, refl, sym, ◌∙◌}
use mathlib.Core.Logic.{◌≢◌}
use mathlib.Core.List.{List}
use lib.ListN.{length, get_or, drop}
use lib.Seq.{get_or-drop, get_or-take}
use lib.Dec.{eqb, lit<}
use borrow.Author.Tests.{eq-eqb, ne_eqb}
use Rattle.model.specs.Lists.{if◌then◌otherwise◌, part}
use Rattle.model.specs.Codes.{session_type}
use Rattle.model.specs.Item.{Item, code}
use Rattle.model.specs.History.{Entry, place_of, entry_of}
use Rattle.model.proofs.Tests.{by-test}
use Rattle.chains.specs.Chain.{buckets, chain_words, linked, chain}
use Rattle.chains.proofs.Laws.{chain_length}
use Rattle.format.specs.Format.{format_of}
use Rattle.format.specs.Layout.{item_of}
use Rattle.format.proofs.Traits.{sizes}
use Rattle.index.specs.declared.Known.{Known}
use Rattle.index.specs.Kept.{before, item_after}
use Rattle.index.specs.Known.{IsKnown, Passing}
use Rattle.index.proofs.Counts.{has_words, words-law}
use Rattle.index.proofs.Reading.{known-code, known-count, known-within, known-address, known-word}
use Rattle.lookup.specs.Search.{address_in}
use Rattle.lookup.specs.Buckets.{of_voter, of_session, by_address, by_voter, parent_chain, session_chain}

-- ---- a bucket is one of the 2,048

pub address-small : (w : ℕ) → w % buckets < buckets
address-small w = omega arith

pub voter-small : (v : ℕ) → of_voter v < buckets
voter-small v = omega arith

session-small : (i : Item) → of_session i < buckets
unfolding if◌then◌otherwise◌
session-small i =
    by-test (eqb (code i) session_type) (λ q. rw q (voter-small _)) (λ q. rw q (lit< tt))

pub by_address-small : (board : List ℕ) (k : ℕ) → by_address board k < buckets
unfolding by_address
by_address-small board zero = lit< tt
by_address-small board (suc k) = address-small _

pub by_voter-small : (board : List ℕ) (k : ℕ) → by_voter board k < buckets
unfolding by_voter
by_voter-small board zero = lit< tt
by_voter-small board (suc k) = session-small (item_after board k)

-- ---- the first word of an address

pub first_word : (board from : List ℕ) (at : ℕ) → get_or (address_in board from at) 0 0 ≡ get_or from at 0
unfolding part
first_word board from at = let b = sizes board in rw (get_or-take (format_of board).address (drop at from) 0 0 (omega arith), get_or-drop, add-zero)

-- ---- the item that passes

module _ {board index : List ℕ} {n : ℕ} {c : Known} (p : Passing board index n c) where
  abbrev new : Entry
  new = entry_of (before board n) (place_of (format_of board) board n) (item_after board n)

  is : IsKnown board new c
  unfolding entry_of place_of item_of
  is = record { same = p.known; item = refl; within = rw p.known p.within }

  -- by its address
  pub address-inside : c.item.address < length board
  address-inside = let b = sizes board in omega (arith, (known-within is).address)

  in-address : {r : ℕ} → r ≡ get_or board c.item.address 0 % buckets → r ≡ by_address board (suc n)
  unfolding by_address entry_of
  in-address e = e ∙ rw (← known-address is, first_word)

  pub parents-next : {t u : List ℕ} {r : ℕ} → t ≡ parent_chain board n → r ≡ get_or board c.item.address 0 % buckets
      → u ≡ linked t r (n + 1) → u ≡ parent_chain board (n + 1)
  unfolding chain
  parents-next a e s = s ∙ rw (a, in-address e, add-one)

  -- by its voter
  typed : c.item.head.code ≡ session_type → code (item_after board n) ≡ session_type
  unfolding entry_of
  typed q = sym (known-code is) ∙ q

  voter-word : c.item.head.code ≡ session_type → 1 ≤ c.item.head.count
  unfolding entry_of has_words
  voter-word q = rw (known-count is) (words-law board session_type 1 26 _ tt p.meets.listed (typed q) p.meets.counted).0

  pub voter-inside : c.item.head.code ≡ session_type → c.item.content < length board
  voter-inside q = omega (arith, (known-within is).content, voter-word q)

  pub in-voter : c.item.head.code ≡ session_type → {r : ℕ} → r ≡ of_voter (get_or board c.item.content 0) → r ≡ of_session (item_after board n)
  unfolding entry_of if◌then◌otherwise◌
  in-voter q e =
      let word = rw add-zero at (known-word is 0 (voter-word q)) in
      e ∙ rw (eq-eqb _ _ (typed q), word)

  pub in-none : c.item.head.code ≢ session_type → 0 ≡ of_session (item_after board n)
  unfolding entry_of if◌then◌otherwise◌
  in-none q = rw (← known-code is, ne_eqb c.item.head.code session_type q)

  pub session-inside : {r : ℕ} → r ≡ of_session (item_after board n) → r < buckets
  session-inside e = rw e (session-small (item_after board n))

  pub sessions-next : {t u : List ℕ} {r : ℕ} → t ≡ session_chain board n → r ≡ of_session (item_after board n)
      → u ≡ linked t r (n + 1) → u ≡ session_chain board (n + 1)
  unfolding chain by_voter
  sessions-next a e s = s ∙ rw (a, e, add-one)

-- a chain table has its words
pub chain-words : (bucket : ℕ → ℕ) (n : ℕ) {t : List ℕ} → t ≡ chain bucket n → length t ≡ chain_words
chain-words bucket n e = rw e (chain_length bucket n)
