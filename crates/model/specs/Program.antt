-- The auditing program: which words it makes of the bytes of three files, which sizes it refuses, and the bytes that it prints.
-- Paper: "The auditing program"; "Words on the shelf" (files); request (i) ("the program reads roll.words by the rules of its other files").
-- Assumes nothing.
use Rattle.std.specs.Prelude.{ℕ, zero, suc, ◌+◌, ◌-◌, ◌*◌, ◌/◌, ◌%◌, ◌^◌, Bool, not, ◌&&◌, List, [], ◌∷◌, ◌++◌, length, eqb, ltb}
use Rattle.model.specs.Lists.{if◌then◌otherwise◌, count}
use Rattle.model.specs.Refusal.{no_fault, too_large, truncated}
use Rattle.model.specs.Format.{Format}
use Rattle.model.specs.History.{main}
use Rattle.model.specs.Counted.{counted, total_weight}
use Rattle.model.specs.Roll.{roll_row, roll_limit}
use Rattle.model.specs.Audit.{Outcome, unread, refused, accepted, audit, index_need, ballot_need}
use Rattle.model.specs.Report.{ballot_rows}

-- ---- what it reads. "A file that can't be opened counts as empty": its bytes are []

abbrev pub bytes_per_word : ℕ
bytes_per_word = 4

-- "In a file each word is four bytes, high byte first."
unfoldable pub from_bytes : List ℕ → List ℕ
from_bytes (a ∷ b ∷ c ∷ d ∷ rest) = (a * 2 ^ 24 + b * 2 ^ 16 + c * 2 ^ 8 + d) ∷ from_bytes rest
from_bytes (a ∷ b ∷ c ∷ []) = []
from_bytes (a ∷ b ∷ []) = []
from_bytes (a ∷ []) = []
from_bytes [] = []

-- "a board of at most 16,384 words"
abbrev pub program_limit : ℕ
program_limit = 16384

-- "Such a board has at most 381 items": an item has at least 43 words
abbrev pub least_item : ℕ
least_item = 43

abbrev pub program_items : ℕ
program_items = 381

-- "so verdict words past 3,430 are only counted"
abbrev pub verdict_limit : ℕ
verdict_limit = 3430

-- "more than 4,096 words are a bad roll", so roll words past 4,097 are only counted
abbrev pub roll_kept : ℕ
roll_kept = roll_row * roll_limit + 1

abbrev pub is_whole : ℕ → Bool
is_whole bytes = eqb (bytes % bytes_per_word) 0

-- the byte counts of all three files are multiples of 4
abbrev pub are_whole : (board verdicts roll : ℕ) → Bool
are_whole board verdicts roll = is_whole board && is_whole verdicts && is_whole roll

-- the refusal of the files' sizes, from their byte counts. "if either file's byte count isn't a multiple of 4, it is refused as 4", with
-- roll.words of any of the three, before "a board of at most 16,384 words (more is refused as 1)"
unfoldable pub size_fault : (board verdicts roll : ℕ) → ℕ
unfolding if◌then◌otherwise◌
size_fault board verdicts roll =
    if not (are_whole board verdicts roll) then truncated
    otherwise if ltb program_limit (board / bytes_per_word) then too_large
    otherwise no_fault

-- a refusal for the sizes comes with 0 items, and else the outcome o stands
unfoldable pub sized : ℕ → Outcome → Outcome
sized zero o = o
sized (suc n) o = unread (suc n)

-- the program's outcome from the byte counts of the files, the board's words ws, the verdict words vs and the roll's words rs
abbrev pub program_outcome : Format → (board verdicts roll : ℕ) → (ws vs rs : List ℕ) → Outcome
program_outcome f board verdicts roll ws vs rs = sized (size_fault board verdicts roll) (audit f ws vs rs index_need ballot_need)

-- from the bytes of the files
unfoldable pub files_outcome : Format → (board verdicts roll : List ℕ) → Outcome
files_outcome f board verdicts roll =
    program_outcome f (length board) (length verdicts) (length roll) (from_bytes board) (from_bytes verdicts) (from_bytes roll)

-- ---- what it prints. "Numbers are decimal, spaces single, lines ended by byte 10."

abbrev pub newline : ℕ
newline = 10

abbrev pub space : ℕ
space = 32

-- `refused`, `at`, `accepted`
abbrev pub refused_text : List ℕ
refused_text = 114 ∷ 101 ∷ 102 ∷ 117 ∷ 115 ∷ 101 ∷ 100 ∷ []

abbrev pub at_text : List ℕ
at_text = 97 ∷ 116 ∷ []

abbrev pub accepted_text : List ℕ
accepted_text = 97 ∷ 99 ∷ 99 ∷ 101 ∷ 112 ∷ 116 ∷ 101 ∷ 100 ∷ []

-- the byte of a digit: `0` is 48
abbrev pub digit : ℕ → ℕ
digit d = 48 + d

-- the decimal digits of a number n that has at most k + 1 of them
unfoldable pub digits : ℕ → ℕ → List ℕ
unfolding if◌then◌otherwise◌
digits zero n = digit (n % 10) ∷ []
digits (suc k) n = if ltb n 10 then digit n ∷ [] otherwise digits k (n / 10) ++ (digit (n % 10) ∷ [])

-- all of them: n has at most n + 1
abbrev pub decimal : ℕ → List ℕ
decimal n = digits n n

-- the value of decimal digits behind the number n
unfoldable pub value_from : ℕ → List ℕ → ℕ
value_from n [] = n
value_from n (d ∷ ds) = value_from (n * 10 + (d - digit 0)) ds

-- numbers, each behind a space
unfoldable pub spaced : List ℕ → List ℕ
spaced [] = []
spaced (n ∷ ns) = space ∷ decimal n ++ spaced ns

abbrev pub line : List ℕ → List ℕ
line text = text ++ (newline ∷ [])

-- "`refused`, number, `at`, items passed"
unfoldable pub refused_line : ℕ → ℕ → List ℕ
refused_line n k = line (refused_text ++ spaced (n ∷ []) ++ (space ∷ at_text) ++ spaced (k ∷ []))

-- "`accepted`, items, main items, ballots, weight"
unfoldable pub accepted_line : ℕ → ℕ → ℕ → ℕ → List ℕ
accepted_line items mains ballots weight = line (accepted_text ++ spaced (items ∷ mains ∷ ballots ∷ weight ∷ []))

-- "a line per ballot row with its three words"
unfoldable pub row_lines : List ℕ → List ℕ
row_lines (ballot ∷ voter ∷ weight ∷ rows) = line (decimal ballot ++ spaced (voter ∷ weight ∷ [])) ++ row_lines rows
row_lines (ballot ∷ voter ∷ []) = []
row_lines (ballot ∷ []) = []
row_lines [] = []

unfoldable pub text_of : Outcome → List ℕ
text_of (unread n) = refused_line n 0
text_of (refused n k) = refused_line n k
text_of (accepted h) = accepted_line (length h) (count main h) (length (counted h)) (total_weight (counted h)) ++ row_lines (ballot_rows (counted h))

-- what the program prints for the bytes of board.words, verdicts.words and roll.words
abbrev pub printed : Format → (board verdicts roll : List ℕ) → List ℕ
printed f board verdicts roll = text_of (files_outcome f board verdicts roll)
