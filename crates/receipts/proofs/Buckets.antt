-- The bucket of a receipt, by the first word of its address, and the chain table with one receipt more. Assumes nothing.
use Prim.Native.Nat.{ℕ, zero, suc, ◌+◌, ◌*◌, ◌%◌, ◌<◌}
use native.Mathlib.Numerals.{add-one}
use mathlib.Core.Path.{◌≡◌, ap, ◌∙◌}
use mathlib.Core.List.{List}
use lib.ListN.{get_or, replicate}
use lib.Dec.{lit<}
use Rattle.chains.specs.Chain.{buckets, chain_words, linked, chain}
use Rattle.model.specs.Receipts.{receipt_size}
use Rattle.format.specs.Format.{format_of}
use Rattle.lookup.proofs.Buckets.{address-small}
use Rattle.receipts.specs.Answering.{by_receipt}
use Rattle.receipts.proofs.Places.{receipt-word}

pub by_receipt-small : (board receipts : List ℕ) (k : ℕ) → by_receipt board receipts k < buckets
unfolding by_receipt
by_receipt-small board receipts zero = lit< tt
by_receipt-small board receipts (suc k) = address-small _

pub chain-begins : (board receipts : List ℕ) {t : List ℕ} → t ≡ replicate chain_words 0 → t ≡ chain (by_receipt board receipts) 0
unfolding chain
chain-begins board receipts e = e

-- receipt k from 0 on, as the code finds its bucket
pub chain_next : (board receipts : List ℕ) (k : ℕ) {size s : ℕ} → size ≡ receipt_size (format_of board) → s ≡ (format_of board).signature
    → {r : ℕ} → r ≡ get_or receipts (size * k + s) 0 % buckets → {t u : List ℕ} → t ≡ chain (by_receipt board receipts) k
    → u ≡ linked t r (k + 1) → u ≡ chain (by_receipt board receipts) (k + 1)
unfolding chain by_receipt
chain_next board receipts k p q e c l =
    let own = e ∙ ap (◌% buckets) (receipt-word board receipts k p q) in
    l ∙ rw (c, own, add-one)
