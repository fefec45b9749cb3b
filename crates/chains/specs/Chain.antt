-- Items in chains by bucket: for each bucket its last item, and for each item the one before it in its bucket, so that a search passes the
-- items of one bucket alone. A chain table has a word for each bucket, then a word for each item number from 0 on. Not of the paper: it
-- changes no answer. Assumes nothing.
use Rattle.std.specs.Prelude.{ℕ, zero, suc, ◌+◌, List, get_or, replicate, set, eqb}
use Rattle.model.specs.Lists.{if◌then◌otherwise◌}

abbrev pub buckets : ℕ
buckets = 2048

-- a word for each bucket, and for each item number up to the limit of 2,048
abbrev pub chain_words : ℕ
chain_words = 4097

-- the table with item k in bucket b: behind it stands the item that was the last there
abbrev pub linked : List ℕ → ℕ → ℕ → List ℕ
linked table b k = set (set table (buckets + k) (get_or table b 0)) b k

-- the table of the first n items, where item k is in bucket `bucket k`
unfoldable pub chain : (ℕ → ℕ) → ℕ → List ℕ
chain bucket zero = replicate chain_words 0
chain bucket (suc n) = linked (chain bucket n) (bucket (suc n)) (suc n)

-- the last of the first n items in bucket b; 0 where there is none
unfoldable pub last_in : (ℕ → ℕ) → ℕ → ℕ → ℕ
unfolding if◌then◌otherwise◌
last_in bucket b zero = 0
last_in bucket b (suc n) = if eqb (bucket (suc n)) b then suc n otherwise last_in bucket b n
