-- `hash_words` meets its contract: the whole blocks, then the words left over with the padding.
use mathlib.Core.Path.{sym}
use Prim.Native.Nat.{◌*◌, ◌/◌}
use native.Mathlib.Omega.{arith}
use lib.ListN.{length}
use lib.Seq.{length-take-le}
use Rattle.sha512.proofs.Holds.{hash-whole}
use Rattle.sha512.proofs.hash_words.Goals as goal

pub slice_bounds-compress_blocks-end : goal.slice_bounds-compress_blocks-end
slice_bounds-compress_blocks-end c = let m = c.args.words.now in sym (length-take-le (length m / 32 * 32) m (omega arith))

pub returns : goal.returns
returns c = hash-whole c.args.start c.args.words.now c.compress_blocks-h.ensures c.last_blocks.ensures
