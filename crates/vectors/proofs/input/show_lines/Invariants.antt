-- all lines can be read if those from the place on can, from some bits on for which the hash stands
use Rattle.std.proofs.Common.{◌≡◌, ℕ, ◌+◌, ◌-◌, ◌≤◌, length, drop}
use Rattle.vectors.specs.Input.{lines, all_read}
use Rattle.vectors.specs.Reading.{hash_of}
use Rattle.vectors.proofs.input.show_lines.Given as goal

abbrev pub invariant-loop-from : goal.invariant-loop-from
invariant-loop-from g l =
    (l.from ≤ length l.text + 1) × ((bits : ℕ) × (l.hash ≡ hash_of bits) × (all_read 0 (lines l.text) ≡ all_read bits (lines (drop l.from l.text))))

abbrev pub decreases-loop-from : goal.decreases-loop-from
decreases-loop-from g l = length l.text + 1 - l.from
