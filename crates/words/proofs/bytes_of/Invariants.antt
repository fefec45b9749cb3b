use mathlib.Core.Path.{◌≡◌}
use mathlib.Core.List.{◌++◌}
use Prim.Native.Nat.{◌*◌}
use lib.ListN.{length, take, drop}
use Rattle.words.specs.Bytes.{to_bytes}
use Rattle.words.proofs.bytes_of.Given as goal

abbrev pub invariant-loop-i : goal.invariant-loop-i
invariant-loop-i l = (l.bytes ≡ to_bytes (take l.i l.w) ++ drop (4 * l.i) l.initial.bytes) × (length l.bytes ≡ length l.initial.bytes)
