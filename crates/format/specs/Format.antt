-- The format of a board, with the hashes of FIPS 180-4. Contracts of the code speak of boards of their own format. Paper: requests (v), (ix).
-- Assumes nothing.
use Rattle.std.specs.Prelude.{ℕ, ◌^◌, List}
use Rattle.sha256_block.specs.Fips.{sha256_words}
use Rattle.sha512_block.specs.Fips.{sha384_words, sha512_words}
use Rattle.model.specs.Format as model
use Rattle.model.specs.Traits as traits
use Rattle.format.specs.declared.format.Format.{Format}

abbrev pub hashes : model.Hashes
hashes = record { sha256 = sha256_words; sha384 = sha384_words; sha512 = sha512_words }

abbrev pub format_of : List ℕ → model.Format
format_of = traits.format_of hashes

-- what the code keeps of a format: the number of its curve, and its sizes. A word whose low bits are spare is a multiple of a power of 2
abbrev pub widths : ℕ → model.Format → Format
widths curve f = record {
  curve = curve;
  address = f.address;
  signature = f.signature;
  commitment = f.commitment;
  unit = 2 ^ f.spare;
  cryptogram = f.cryptogram;
  sets = f.sets;
}

-- that of a curve by its number, and that of a board
abbrev pub widths_on : ℕ → ℕ → Format
widths_on curve sets = widths curve (model.format_on hashes (traits.curve_of curve) sets)

abbrev pub curve_number_of : List ℕ → ℕ
curve_number_of board = traits.curve_number (traits.traits_of board)

abbrev pub widths_of : List ℕ → Format
widths_of board = widths (curve_number_of board) (format_of board)
