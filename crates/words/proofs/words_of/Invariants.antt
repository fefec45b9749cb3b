use mathlib.Core.Path.{◌≡◌}
use mathlib.Core.List.{◌++◌}
use lib.ListN.{length, take, drop}
use Rattle.model.specs.Program.{from_bytes}
use Rattle.words.proofs.words_of.Given as goal

abbrev pub invariant-loop-i : goal.invariant-loop-i
invariant-loop-i l = (l.w ≡ take l.i (from_bytes l.bytes) ++ drop l.i l.initial.w) × (length l.w ≡ length l.initial.w)
