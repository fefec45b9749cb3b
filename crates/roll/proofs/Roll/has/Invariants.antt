use Prim.Native.Nat.{ℕ, ◌-◌}
use Rattle.roll.proofs.Search.{Left}
use Rattle.roll.proofs.Roll.has.Given as goal

abbrev pub invariant-loop-look : goal.invariant-loop-look
invariant-loop-look l = (low : ℕ) × Left l.self.words.now l.voter (12 - l.look) l.left low
