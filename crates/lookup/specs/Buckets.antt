-- The bucket of an item: by its address where a parent is sought, by its voter where a session is. Items that a search is for are in one
-- bucket. Not of the paper: it changes no answer. Assumes nothing.
use Rattle.std.specs.Prelude.{ℕ, zero, suc, ◌%◌, List, get_or, eqb}
use Rattle.model.specs.Lists.{if◌then◌otherwise◌}
use Rattle.model.specs.Codes.{session_type}
use Rattle.model.specs.Item.{Item, code}
use Rattle.model.specs.History.{session_voter}
use Rattle.chains.specs.Chain.{buckets, chain}
use Rattle.index.specs.Kept.{item_after}

-- of an address: by its first word
abbrev pub of_address : List ℕ → ℕ
of_address address = get_or address 0 0 % buckets

-- of a voter: one from 1 to 2,047
abbrev pub of_voter : ℕ → ℕ
of_voter voter = suc (voter % 2047)

-- of an item, by its voter: bucket 0 has what is no session
abbrev pub of_session : Item → ℕ
of_session i = if eqb (code i) session_type then of_voter (session_voter i) otherwise 0

-- of item k of a board
unfoldable pub by_address : List ℕ → ℕ → ℕ
by_address board zero = 0
by_address board (suc n) = of_address (item_after board n).address

unfoldable pub by_voter : List ℕ → ℕ → ℕ
by_voter board zero = 0
by_voter board (suc n) = of_session (item_after board n)

-- the chain tables of the first n items of a board: to find a parent, and to find the latest session of a voter
abbrev pub parent_chain : List ℕ → ℕ → List ℕ
parent_chain board n = chain (by_address board) n

abbrev pub session_chain : List ℕ → ℕ → List ℕ
session_chain board n = chain (by_voter board) n
