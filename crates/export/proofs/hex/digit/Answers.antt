-- `export::hex::digit` meets its contract. Assumes nothing.
use mathlib.Core.Path.{refl}
use Rattle.exporting.specs.Json.{bytes_of}
use Rattle.exporting.specs.Export.{hex_text}
use Rattle.export.proofs.hex.digit.Goals as goal

pub returns : goal.returns
unfolding hex_text bytes_of
returns c = refl
