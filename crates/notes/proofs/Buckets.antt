-- The bucket of an item that was passed, by the first word of its address, and the chain table with one item more. Assumes nothing.
use Prim.Native.Nat.{ℕ, suc, ◌+◌, ◌%◌, ◌<◌}
use native.Mathlib.Numerals.{add-one}
use native.Mathlib.Omega.{arith}
use mathlib.Core.Path.{◌≡◌, ◌∙◌}
use mathlib.Core.List.{List}
use lib.ListN.{length, get_or, replicate}
use Rattle.model.specs.History.{Entry, entry, entry_of}
use Rattle.chains.specs.Chain.{buckets, chain_words, linked, chain}
use Rattle.format.proofs.Traits.{sizes}
use Rattle.index.specs.declared.Known.{Known}
use Rattle.index.specs.Kept.{before}
use Rattle.index.specs.Known.{IsKnown}
use Rattle.index.proofs.Items.{entry-made}
use Rattle.index.proofs.Reading.{known-within, known-address}
use Rattle.lookup.specs.Buckets.{by_address, parent_chain}
use Rattle.lookup.proofs.Buckets.{first_word}

pub chain-begins : (board : List ℕ) {t : List ℕ} → t ≡ replicate chain_words 0 → t ≡ parent_chain board 0
unfolding chain
chain-begins board e = e

-- an address has a first word
pub address-inside : {board : List ℕ} {e : Entry} {c : Known} → IsKnown board e c → c.item.address < length board
address-inside {board} is = let b = sizes board in omega (arith, (known-within is).address)

-- item k + 1 of the first n
module _ {board : List ℕ} (n k : ℕ) (l : k < n) {c : Known} (is : IsKnown board (entry (before board n) (k + 1)) c) where
  in-address : {r : ℕ} → r ≡ get_or board c.item.address 0 % buckets → r ≡ by_address board (suc k)
  unfolding by_address entry_of
  in-address e =
      let made = rw (add-one, entry-made board n k l) at is in
      e ∙ rw (← known-address made, first_word)

  pub chain_next : {r : ℕ} → r ≡ get_or board c.item.address 0 % buckets → {t u : List ℕ} → t ≡ parent_chain board k
      → u ≡ linked t r (k + 1) → u ≡ parent_chain board (k + 1)
  unfolding chain
  chain_next e a s = s ∙ rw (a, in-address e, add-one)
