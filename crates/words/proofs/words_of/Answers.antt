-- `words::words_of` meets its contract. The invariant: the first i words are written, and the rest is as it stood. Assumes nothing.
use mathlib.Core.Path.{◌≡◌, ◌∙◌}
use mathlib.Core.List.{[]}
use Prim.Native.Nat.{◌*◌, ◌/◌, ◌<◌}
use lib.ListN.{length}
use Rattle.words.specs.Bytes.{word_at}
use native.Mathlib.Omega.{arith}
use borrow.Author.Rules.{rules}
use Rattle.words.proofs.Bytes.{four-is, put-more, put_all}
use Rattle.words.proofs.words_of.Goals as goal

pub loop-i-preserved : goal.loop-i-preserved
loop-i-preserved c =
    let x = c.args in
    let i = c.loop-i.i in
    let here : i < length x.bytes.now / 4 = omega (arith, c.as_chunks.ensures.front_len) in
    let word : c.from_be_bytes.result ≡ word_at x.bytes.now (i * 4) =
    rw c.as_chunks.ensures.front at c.from_be_bytes.ensures ∙ four-is x.bytes.now i [] here in
    (rw (c.loop-i.invariant.0, word) (put-more x.bytes.now x.w.now i (omega arith) (omega arith)), search rules)

pub returns : goal.returns
returns c =
    let x = c.args in
    c.loop-i.invariant.0 ∙ put_all x.bytes.now x.w.now c.loop-i.i (omega arith)
