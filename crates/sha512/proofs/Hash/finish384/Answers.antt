-- `Hash::finish384` meets its contract.
use mathlib.Core.Path.{ap, ◌∙◌}
use mathlib.Core.List.{List}
use Prim.Native.Nat.{ℕ}
use lib.ListN.{take}
use Rattle.sha512_block.specs.Fips.{to_halves}
use Rattle.sha512.specs.State.{digest384_of}
use Rattle.sha512.proofs.Hash.finish384.Goals as goal

pub returns : goal.returns
unfolding digest384_of
returns c = c.halves.ensures ∙ ap (λ (h : List ℕ). to_halves (take 6 h)) c.end.ensures
