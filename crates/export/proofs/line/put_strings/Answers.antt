-- `export::line::put_strings` meets its contract. Assumes nothing.
use native.Mathlib.Omega.{arith}
use Rattle.exporting.specs.Json.{bytes_of}
use Rattle.export.proofs.Parts.{Room, room, first, rest, parent_key, previous_key, address_key, content_key, string_parts}
use Rattle.export.proofs.Parts.{string-room, stands, strings-parts, put-strings}
use Rattle.export.proofs.line.put_strings.Goals as goal

pub overflow_sub-width : goal.overflow_sub-width
overflow_sub-width c = omega (arith, stands c.requires.0)

pub overflow_add-parent : goal.overflow_add-parent
overflow_add-parent c = omega (arith, stands c.requires.0)

pub offset_bounds-board-item : goal.offset_bounds-board-item
offset_bounds-board-item c = omega (arith, stands c.requires.0)

pub slice_bounds-parent-end : goal.slice_bounds-parent-end
slice_bounds-parent-end c = omega (arith, stands c.requires.0)

pub overflow_add-previous : goal.overflow_add-previous
overflow_add-previous c = omega (arith, stands c.requires.0)

pub offset_bounds-board-item-2 : goal.offset_bounds-board-item-2
offset_bounds-board-item-2 c = omega (arith, stands c.requires.0)

pub slice_bounds-previous-end : goal.slice_bounds-previous-end
slice_bounds-previous-end c = omega (arith, stands c.requires.0)

pub offset_bounds-board-item-3 : goal.offset_bounds-board-item-3
offset_bounds-board-item-3 c = omega (arith, stands c.requires.0)

pub slice_bounds-address-count : goal.slice_bounds-address-count
slice_bounds-address-count c = omega (arith, stands c.requires.0)

pub slice_bounds-address-start : goal.slice_bounds-address-start
slice_bounds-address-start c = omega (arith, stands c.requires.0)

pub overflow_add-content : goal.overflow_add-content
overflow_add-content c = omega (arith, stands c.requires.0)

pub offset_bounds-board-item-4 : goal.offset_bounds-board-item-4
offset_bounds-board-item-4 c = omega (arith, stands c.requires.0)

pub slice_bounds-content-end : goal.slice_bounds-content-end
slice_bounds-content-end c = omega (arith, stands c.requires.0)

pub put_string-requires : goal.put_string-requires
unfolding bytes_of
put_string-requires c =
    let all : Room c.args.out.now (string_parts c.args.board.now c.args.item) = room (strings-parts c.requires.0) c.requires.1 in
    string-room parent_key _ all

pub put_string-requires-2 : goal.put_string-requires-2
unfolding bytes_of
put_string-requires-2 c =
    let all : Room c.args.out.now (string_parts c.args.board.now c.args.item) = room (strings-parts c.requires.0) c.requires.1 in
    string-room previous_key _ (rest all c.put_string.ensures)

pub put_string-requires-3 : goal.put_string-requires-3
unfolding bytes_of
put_string-requires-3 c =
    let all : Room c.args.out.now (string_parts c.args.board.now c.args.item) = room (strings-parts c.requires.0) c.requires.1 in
    string-room address_key _ (rest (rest all c.put_string.ensures) c.put_string-2.ensures)

pub put_string-requires-4 : goal.put_string-requires-4
unfolding bytes_of
put_string-requires-4 c =
    let all : Room c.args.out.now (string_parts c.args.board.now c.args.item) = room (strings-parts c.requires.0) c.requires.1 in
    string-room content_key _ (rest (rest (rest all c.put_string.ensures) c.put_string-2.ensures) c.put_string-3.ensures)

pub bytes-requires : goal.bytes-requires
unfolding bytes_of
bytes-requires c =
    let all : Room c.args.out.now (string_parts c.args.board.now c.args.item) = room (strings-parts c.requires.0) c.requires.1 in
    first (rest (rest (rest (rest all c.put_string.ensures) c.put_string-2.ensures) c.put_string-3.ensures) c.put_string-4.ensures)

pub returns : goal.returns
unfolding bytes_of
returns c =
    put-strings c.requires.0
    c.put_string.ensures c.put_string-2.ensures c.put_string-3.ensures c.put_string-4.ensures c.bytes.ensures
