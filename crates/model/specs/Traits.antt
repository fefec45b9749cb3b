-- The format of a board, by its own words: "Widths are read before all else from the traits word of a first item with head 10010012".
-- Paper: requests (v) and (ix). Assumes nothing.
use Rattle.std.specs.Prelude.{ℕ, ◌/◌, ◌%◌, ◌^◌, Bool, not, ◌&&◌, List, get_or, eqb}
use Rattle.model.specs.Lists.{if◌then◌otherwise◌}
use Rattle.model.specs.Format.{Format, Hashes, Curve, secp256r1, secp384r1, secp521r1, format_on}

-- "A genesis of 18 words carries a traits word at its end": the head of such a genesis, and the place of that word on a board that it opens
abbrev pub traits_head : ℕ
traits_head = 0x10010012

abbrev pub traits_place : ℕ
traits_place = 18

-- "bit 0 set makes every contest set eight words long"
unfoldable pub set_words : ℕ → ℕ
set_words t = if eqb (t % 2) 1 then 8 otherwise 1

-- "Bits 1 and 2 of the traits word, as a number, choose"
abbrev pub curve_number : ℕ → ℕ
curve_number t = t / 2 % 4

-- "0 SHA-256, 1 SHA-384, 2 SHA-512"
unfoldable pub curve_of : ℕ → Curve
curve_of n = if eqb n 1 then secp384r1 otherwise if eqb n 2 then secp521r1 otherwise secp256r1

-- "Other trait bits set give 13", and as the number of a curve "3 gives 13"
unfoldable pub traits_known : ℕ → Bool
traits_known t = eqb (t / 2 ^ 3) 0 && not (eqb (curve_number t) 3)

-- the traits in force: none, 0, on "a board without that word, or with one that gives 13"
unfoldable pub traits_of : List ℕ → ℕ
traits_of ws =
    let t = get_or ws traits_place 0 in
    if eqb (get_or ws 0 0) traits_head && traits_known t then t otherwise 0

-- the format that traits give, and the format of a board
abbrev pub format_with : Hashes → ℕ → Format
format_with s t = format_on s (curve_of (curve_number t)) (set_words t)

abbrev pub format_of : Hashes → List ℕ → Format
format_of s ws = format_with s (traits_of ws)
