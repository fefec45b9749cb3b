use Rattle.std.proofs.Common.{◌≡◌, refl, ◌/◌, ◌<◌, arith, length}
use Rattle.vectors.specs.Hexadecimal.{words_of}
use Rattle.vectors.proofs.Hexadecimal.{length-eight, digits-eight, words-next}
use Rattle.vectors.proofs.Reading.{message-parts}
use Rattle.vectors.proofs.input.read_words.Goals as goal

pub loop-i-init : goal.loop-i-init
unfolding words_of
loop-i-init c = refl

pub number-requires : goal.number-requires
number-requires c =
    let i = c.loop-i.i in
    let text = c.args.text.now in
    let n = length text / 8 in
    let here : i < n = omega (arith, c.as_chunks.ensures.front_len) in
    rw c.as_chunks.ensures.front (length-eight text n i here, digits-eight text n i here (message-parts text c.requires).2)

pub bounds-words-i : goal.bounds-words-i
bounds-words-i c = omega (arith, (message-parts c.args.text.now c.requires).1, c.as_chunks.ensures.front_len)

pub loop-i-preserved : goal.loop-i-preserved
loop-i-preserved c =
    let l = c.loop-i in
    let text = c.args.text.now in
    let n = length text / 8 in
    let here : l.i < n = omega (arith, c.as_chunks.ensures.front_len) in
    words-next text l.words 256 n l.i here (message-parts text c.requires).1 (rw c.as_chunks.ensures.front at c.number.ensures.0) l.invariant

pub returns : goal.returns
returns c =
    let all : c.loop-i.i ≡ length c.args.text.now / 8 = omega (arith, c.as_chunks.ensures.front_len) in
    rw all at c.loop-i.invariant
