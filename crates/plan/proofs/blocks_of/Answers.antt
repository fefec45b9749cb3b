-- `blocks_of` meets its contract. Assumes nothing.
use native.Mathlib.Omega.{arith}
use Rattle.plan.proofs.Blocks.{on-wide, on-256}
use Rattle.plan.proofs.blocks_of.Goals as goal

pub returns-in-1 : goal.returns-in-1
returns-in-1 c = on-wide _ c.args.words (omega arith) (omega arith)

pub returns-in_default : goal.returns-in_default
returns-in_default c = on-256 _ c.args.words (omega arith) (omega arith)
