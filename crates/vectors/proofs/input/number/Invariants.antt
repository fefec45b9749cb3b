-- the number of the whole text begins with the value so far and goes on with the digits from there on
use Rattle.std.proofs.Common.{◌≡◌, ◌^◌, ◌<◌, true, drop}
use Rattle.vectors.specs.Hexadecimal.{all_digits, number, number_from}
use Rattle.vectors.proofs.input.number.Given as goal

abbrev pub invariant-loop-c : goal.invariant-loop-c
invariant-loop-c l =
    (l.value < 16 ^ l.c-index) × (number l.text ≡ number_from l.value (drop l.c-index l.text)) × (all_digits (drop l.c-index l.text) ≡ true)
