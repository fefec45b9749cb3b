-- `last_blocks` meets its contract: what it hashes is the words left over and the padding.
use mathlib.Core.Path.{ap, ◌∙◌}
use mir.Syntax.{w64}
use mir.Val.{Fits}
use Rattle.sha512_blocks.specs.Blocks.{hash_over}
use Rattle.sha512.proofs.Ending.{end-within, length_last, last-blocks}
use borrow.Author.Rules.{rules}
use Rattle.sha512.proofs.last_blocks.Goals as goal

pub slice_bounds-m-end : goal.slice_bounds-m-end
slice_bounds-m-end c = end-within c.args.n c.args.left.now c.requires _ c.store.ensures _ _ _ _ _ _ _ _

pub slice_bounds-compress_blocks-end : goal.slice_bounds-compress_blocks-end
slice_bounds-compress_blocks-end c = length_last c.args.n c.args.left.now c.requires _ c.store.ensures _ _ _ _ _ _ _ _

pub returns : goal.returns
returns c =
    let counted : Fits w64 c.args.n = search rules in
    c.compress_blocks.ensures
    ∙ ap (hash_over c.args.h)
    (last-blocks c.args.n c.args.left.now c.requires _ c.store.ensures counted.fits)
