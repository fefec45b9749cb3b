-- `words::bytes_of` meets its contract. The invariant: the bytes of the first i words are written, and the rest is as it stood. Assumes nothing.
use mathlib.Core.Path.{◌≡◌, ap, ◌∙◌}
use Prim.Native.Nat.{◌+◌, ◌-◌, ◌*◌}
use lib.ListN.{length, get_or}
use mathlib.Core.List.{[], ◌∷◌}
use lib.Seq.{sets, length-sets}
use borrow.Rule.Slice.PartMut.{put_mid}
use native.Mathlib.Omega.{arith}
use borrow.Author.Rules.{rules}
use Rattle.words.proofs.Bytes.{length-to_bytes, bytes-of-word, write_word}
use Rattle.words.proofs.Writing.{part-sets}
use Rattle.words.specs.Bytes.{to_bytes}
use Rattle.words.proofs.bytes_of.Goals as goal

pub loop-i-init : goal.loop-i-init
unfolding to_bytes
loop-i-init c = search rules

pub loop-i-preserved : goal.loop-i-preserved
loop-i-preserved c =
    let x = c.args in
    let i = c.loop-i.i in
    let bytes = c.loop-i.bytes in
    let word = to_bytes (get_or x.w.now i 0 ∷ []) in
    let written : put_mid (4 * i) (4 * i + 4 - 4 * i) bytes c.copy_from_slice.new.self ≡ sets bytes (4 * i) word =
    part-sets bytes _ word (4 * i) (4 * i + 4) (c.copy_from_slice.ensures.after ∙ c.to_be_bytes.ensures ∙ bytes-of-word (get_or x.w.now i 0))
    (omega (arith, length-to_bytes (get_or x.w.now i 0 ∷ []))) (omega arith) in (
      written ∙ rw c.loop-i.invariant.0 (write_word x.w.now x.bytes.now i (omega arith) (omega arith)),
      ap length written ∙ length-sets bytes (4 * i) word ∙ c.loop-i.invariant.1,
    )
