-- `export::hex::put_words` meets its contract. The invariant: a writer whose next place is `at` has put the first words. Assumes nothing.
use mathlib.Core.Path.{refl}
use native.Mathlib.Omega.{arith}
use Rattle.text.proofs.Placed.{length-put}
use Rattle.export.proofs.Digits.{put-words-none, put-part, put-word-more, put-words-all}
use Rattle.export.proofs.hex.put_words.Goals as goal

pub loop-word-init : goal.loop-word-init
loop-word-init c = (put-words-none c.args.out.now (omega arith), omega arith)

pub loop-word-preserved : goal.loop-word-preserved
loop-word-preserved c =
    let l = c.loop-word in
    let put = put-part l.out.out.now l.at _ c.put_word.ensures (omega arith) in
    put-word-more c.args.words.now l.word-index c.loop-word-test.true l.invariant.1 l.invariant.0
    (record { put = put; same = refl; room = length-put put })

pub returns : goal.returns
returns c = put-words-all c.args.words.now c.loop-word.word-index c.loop-word-test.false c.loop-word.invariant.0
