-- `address_ok` meets its contract: the slice up to the signature is the hashed words. Assumes nothing.
use mathlib.Core.Path.{◌∙◌}
use lib.ListN.{length-take, length-drop}
use lib.ListN.{length}
use mathlib.Core.Path.{◌≡◌}
use Rattle.format.proofs.Traits.{knows, sizes}
use Rattle.links.proofs.Checks.{hashed-in, address_same}
use native.Mathlib.Omega.{arith}
use borrow.Author.Rules.{rules}
use Rattle.links.proofs.address_ok.Goals as goal

pub offset_bounds-board-place : goal.offset_bounds-board-place
offset_bounds-board-place c = let b = hashed-in c.args.board.now c.requires.0 c.requires.1 in omega arith

pub slice_bounds-digest-count : goal.slice_bounds-digest-count
slice_bounds-digest-count c = let b = hashed-in c.args.board.now c.requires.0 c.requires.1 in omega arith

pub slice_bounds-digest-start : goal.slice_bounds-digest-start
slice_bounds-digest-start c = let b = hashed-in c.args.board.now c.requires.0 c.requires.1 in omega arith

pub slice_bounds-digest-end : goal.slice_bounds-digest-end
slice_bounds-digest-end c = let b = hashed-in c.args.board.now c.requires.0 c.requires.1 in omega arith

pub digest-digest-requires : goal.digest-digest-requires
digest-digest-requires c =
    let b = hashed-in c.args.board.now c.requires.0 c.requires.1 in simp (length-take, length-drop) (omega arith)

pub part-requires : goal.part-requires
part-requires c =
    let long : length c.digest-digest.result ≡ 16 = search rules in
    omega (arith, knows c.of-format.ensures, sizes c.args.board.now)

pub part-requires-2 : goal.part-requires-2
part-requires-2 c =
    let b = hashed-in c.args.board.now c.requires.0 c.requires.1 in
    let w = knows c.of-format.ensures in
    omega arith

pub returns : goal.returns
returns c =
    rw (c.part.ensures.value, c.part-2.ensures.value) at c.same_words.ensures
    ∙ address_same c.args.board.now c.args.item c.of-format.result c.digest-digest.result c.requires.0 c.requires.1 c.of-format.ensures c.digest-digest.ensures
