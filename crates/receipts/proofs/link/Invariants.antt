use mathlib.Core.Path.{◌≡◌}
use Rattle.chains.specs.Chain.{chain}
use Rattle.receipts.specs.Answering.{by_receipt}
use Rattle.receipts.proofs.link.Given as goal

abbrev pub invariant-loop-k : goal.invariant-loop-k
invariant-loop-k l = l.chain ≡ chain (by_receipt l.asked.passed.board.now l.asked.receipts.now) l.k
