-- The codes of the item types, by name. Paper: "Item types" ("Codes are decimal"). Assumes nothing.
-- Where the paper speaks of a range of types, as "Types 17 to 21", so do the rules.
use Rattle.std.specs.Prelude.{ℕ}

abbrev pub genesis_type : ℕ
genesis_type = 1

-- election text
abbrev pub text_type : ℕ
text_type = 2

abbrev pub contest_type : ℕ
contest_type = 3

abbrev pub threshold_type : ℕ
threshold_type = 4

abbrev pub authorizer_type : ℕ
authorizer_type = 5

abbrev pub round_type : ℕ
round_type = 6

abbrev pub session_type : ℕ
session_type = 16

abbrev pub voter_commitment_type : ℕ
voter_commitment_type = 17

abbrev pub server_commitment_type : ℕ
server_commitment_type = 18

abbrev pub ballot_type : ℕ
ballot_type = 19

abbrev pub cast_type : ℕ
cast_type = 20

abbrev pub spoil_type : ℕ
spoil_type = 21

-- extraction intent
abbrev pub intent_type : ℕ
intent_type = 32

-- extraction data
abbrev pub extraction_type : ℕ
extraction_type = 33

abbrev pub confirmation_type : ℕ
confirmation_type = 34

-- track start
abbrev pub track_type : ℕ
track_type = 48

abbrev pub verifier_type : ℕ
verifier_type = 49

abbrev pub voter_opening_type : ℕ
voter_opening_type = 50

abbrev pub server_opening_type : ℕ
server_opening_type = 51
