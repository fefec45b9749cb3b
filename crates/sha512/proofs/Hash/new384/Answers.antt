-- `Hash::new384` meets its contract.
use mathlib.Core.Path.{ap}
use mathlib.Core.List.{List}
use lib.ListN.{replicate}
use Prim.Native.Nat.{ℕ}
use Rattle.sha2_common.specs.State as sha2
use Rattle.sha512.specs.State.{hash, fresh384}
use Rattle.sha512.proofs.Hash.new384.Goals as goal

pub returns : goal.returns
unfolding fresh384 sha2.fresh
returns c = ap (λ (H : List ℕ). hash (record { chain = H; block = replicate 32 0; count = 0 })) c.start384.ensures
