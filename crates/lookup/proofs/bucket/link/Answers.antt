-- `link` meets its contract: each table gets the item in its bucket. Assumes nothing.
use native.Mathlib.Omega.{arith}
use Rattle.index.proofs.Had.{passing-had}
use Rattle.lookup.proofs.Buckets.{address-inside, parents-next, session-inside, sessions-next, chain-words}
use Rattle.lookup.proofs.bucket.link.Goals as goal

pub offset_bounds-addition-address : goal.offset_bounds-addition-address
offset_bounds-addition-address c = omega (arith, address-inside (passing-had c.args.addition.now.passing))

pub bounds-addition-address : goal.bounds-addition-address
bounds-addition-address c = address-inside (passing-had c.args.addition.now.passing)

pub put-requires : goal.put-requires
put-requires c =
    (chain-words _ _ c.requires.parents_value, omega (arith, c.of_address.ensures), omega (arith, (passing-had c.args.addition.now.passing).more))

pub put-requires-2 : goal.put-requires-2
put-requires-2 c =
    (chain-words _ _ c.requires.sessions_value, session-inside (passing-had c.args.addition.now.passing) c.of_session.ensures, omega (arith, (passing-had c.args.addition.now.passing).more))

pub returns : goal.returns
returns c = record {
  parents = parents-next (passing-had c.args.addition.now.passing) c.requires.parents_value c.of_address.ensures c.put.ensures;
  sessions = sessions-next (passing-had c.args.addition.now.passing) c.requires.sessions_value c.of_session.ensures c.put-2.ensures;
}
