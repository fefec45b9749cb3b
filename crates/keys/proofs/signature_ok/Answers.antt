-- `signature_ok` meets its contract. Assumes nothing.
use Rattle.keys.proofs.Keys.{verdict-whole, signature-is}
use native.Mathlib.Omega.{arith}
use Rattle.keys.proofs.signature_ok.Goals as goal

pub bounds-verdicts-items : goal.bounds-verdicts-items
bounds-verdicts-items c = omega (arith, verdict-whole c.args.verdicts.now c.args.items c.requires.1)

pub returns : goal.returns
returns c = signature-is c.args.verdicts.now c.args.items
