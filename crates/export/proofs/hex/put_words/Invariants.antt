use mathlib.Core.Path.{◌≡◌}
use Prim.Native.Nat.{◌+◌, ◌*◌}
use lib.ListN.{take}
use Rattle.exporting.specs.Export.{word_digits, hex_words}
use Rattle.text.specs.Put.{Writes}
use Rattle.export.proofs.hex.put_words.Given as goal

abbrev pub invariant-loop-word : goal.invariant-loop-word
invariant-loop-word l =
    (Writes l.initial.out (hex_words (take l.word-index l.words)) (record { out = l.out.out; at = l.at }))
    × (l.at ≡ l.initial.out.at + word_digits * l.word-index)
