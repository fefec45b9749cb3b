-- `put` meets its contract: its two stores are the definition's. Assumes nothing.
use native.Mathlib.Omega.{arith}
use lib.ListN.{length-set}
use Rattle.chains.proofs.put.Goals as goal

pub bounds-chain-bucket-2 : goal.bounds-chain-bucket-2
bounds-chain-bucket-2 c = simp length-set (omega arith)
