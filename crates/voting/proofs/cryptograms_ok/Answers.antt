-- `cryptograms_ok` meets its contract. Assumes nothing.
use native.Mathlib.Omega.{arith}
use mathlib.Core.Path.{◌≡◌, sym}
use Rattle.voting.proofs.Rules.{none-yet, one-more, one-stop}
use Rattle.voting.proofs.cryptograms_ok.Goals as goal

pub loop-k-init : goal.loop-k-init
loop-k-init c = let x = c.args in none-yet x.sets x.size x.content.now

pub returns-then-last-ne0 : goal.returns-then-last-ne0
returns-then-last-ne0 c =
    let x = c.args in
    sym (one-stop x.sets x.size x.content.now c.loop-k.k _ c.word-last.ensures c.if-last-ne0.true x.n c.loop-k-test.true)

pub loop-k-preserved : goal.loop-k-preserved
loop-k-preserved c =
    let x = c.args in
    one-more x.sets x.size x.content.now c.loop-k.k _ c.word-last.ensures c.if-last-ne0.false c.loop-k.invariant

pub returns : goal.returns
returns c = let all : c.loop-k.k ≡ c.args.n = omega arith in sym (rw all at c.loop-k.invariant)
