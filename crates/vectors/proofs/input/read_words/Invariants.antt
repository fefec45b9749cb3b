-- the words before i are read, and those from i on are zeros
use Rattle.std.proofs.Common.{◌≡◌, ◌-◌, ◌++◌, replicate}
use Rattle.vectors.specs.Hexadecimal.{words_of}
use Rattle.vectors.proofs.input.read_words.Given as goal

abbrev pub invariant-loop-i : goal.invariant-loop-i
invariant-loop-i l = l.words ≡ words_of l.text l.i ++ replicate (256 - l.i) 0
