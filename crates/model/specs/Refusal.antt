-- The refusals: each row of the paper's table under a name of what is wrong, beside the paper's number, word and condition.
-- Paper: "Refusals and their order". Assumes nothing.
use Rattle.std.specs.Prelude.{ℕ, List, [], ◌∷◌}

-- no refusal: the board is accepted, the item passes
abbrev pub no_fault : ℕ
no_fault = 0

-- 1 oversize: "more words than the limit; or after 2,048 items a word not of kind 15"
abbrev pub too_large : ℕ
too_large = 1

-- 2 short sheet: "a sheet lent for writing is too short"
abbrev pub short_table : ℕ
short_table = 2

-- 3 blank: "no words, or the first is of kind 15"
abbrev pub empty_board : ℕ
empty_board = 3

-- 4 torn: "an item runs past the end, or no closing word"
abbrev pub truncated : ℕ
truncated = 4

-- 5 stranger: "kind not 1, 2, 15, or type not listed under that kind"
abbrev pub unknown_type : ℕ
unknown_type = 5

-- 6 misfit: "content count not in the table"
abbrev pub wrong_count : ℕ
wrong_count = 6

-- 7 false address: "hash differs"
abbrev pub wrong_address : ℕ
wrong_address = 7

-- 8 broken history: "previous"
abbrev pub wrong_previous : ℕ
wrong_previous = 8

-- 9 orphan: "parent not found or not as listed"
abbrev pub wrong_parent : ℕ
wrong_parent = 9

-- 10 backward clock: "time less than the previous main item's, for a hidden item its parent's"
abbrev pub earlier_time : ℕ
earlier_time = 10

-- 11 out of phase: "phases"
abbrev pub out_of_phase : ℕ
out_of_phase = 11

-- 12 second: "only one"
abbrev pub duplicate : ℕ
duplicate = 12

-- 13 bad content: "content"
abbrev pub bad_content : ℕ
bad_content = 13

-- 14 no verdict: "nine words missing or malformed"
abbrev pub no_verdict : ℕ
no_verdict = 14

-- 15 wrong key: "key mark is not the writer's"
abbrev pub wrong_key : ℕ
wrong_key = 15

-- 16 bad signature: "verdict 0"
abbrev pub bad_signature : ℕ
bad_signature = 16

-- 17 is unused: list full, "a counted ballot's row doesn't fit", which request (viii) removed, as there are never so many counted ballots

-- 18 bad close: "wrong number, words after it, or verdict words left over"
abbrev pub bad_closing : ℕ
bad_closing = 18

-- 19 no such point: "comparing and ancestry only"
abbrev pub no_such_item : ℕ
no_such_item = 19

-- 20 bad roll: "odd word count, too many pairs, or not rising"; it "comes right after 2" (request (i))
abbrev pub bad_roll : ℕ
bad_roll = 20

-- 21 not on the roll: it "comes right after 13, for sessions only" (request (i))
abbrev pub not_on_roll : ℕ
not_on_roll = 21

-- 22 bad tray: "not whole receipts, or too many"; it "comes before the audit" (request (ii))
abbrev pub bad_receipts : ℕ
bad_receipts = 22

-- 23 bad notes: "not whole, or too many"; it "comes before the audit" (request (vi))
abbrev pub bad_notes : ℕ
bad_notes = 23

-- ---- which of them an audit gives

-- before anything is read or written
abbrev pub start_refusals : List ℕ
start_refusals = too_large ∷ short_table ∷ []

-- with the items passed so far
abbrev pub read_refusals : List ℕ
read_refusals =
    too_large ∷ bad_roll ∷ empty_board ∷ truncated ∷ unknown_type ∷ wrong_count ∷ wrong_address ∷ wrong_previous ∷ wrong_parent ∷ earlier_time
    ∷ out_of_phase ∷ duplicate ∷ bad_content ∷ not_on_roll ∷ no_verdict ∷ wrong_key ∷ bad_signature ∷ bad_closing ∷ []
