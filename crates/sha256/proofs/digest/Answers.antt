-- `digest` meets its contract: a message fed whole.
use native.Mathlib.Omega.{arith}
use Rattle.sha256.proofs.Feed.{fed-count}
use Rattle.sha256.proofs.Holds.{fresh-count, digest-whole}
use Rattle.sha256.proofs.digest.Goals as goal

pub words-requires : goal.words-requires
words-requires c = let z = fresh-count c.new.ensures in omega (arith, z)

pub finish-requires : goal.finish-requires
finish-requires c =
    let z = fresh-count c.new.ensures in
    let n = fed-count c.new.result c.args.words.now c.words.ensures in
    omega (arith, z, n)

pub returns : goal.returns
returns c =
    digest-whole
    c.args.words.now c.new.ensures c.words.ensures c.finish.ensures
