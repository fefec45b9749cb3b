-- `export::line::put_line` meets its contract. Assumes nothing.
use mathlib.Core.List.{[], ◌∷◌}
use Rattle.format.specs.Layout.{item_on}
use Rattle.text.proofs.Placed.{writes_then}
use Rattle.export.specs.Lines.{numbers_text, strings_text}
use Rattle.export.proofs.Parts.{Room, room, first, rest, stands, line-parts}
use Rattle.export.proofs.line.put_line.Goals as goal

pub pair_at-requires : goal.pair_at-requires
pair_at-requires c = (stands c.requires.0).time

pub put_numbers-requires : goal.put_numbers-requires
put_numbers-requires c =
    let x = c.args in
    let texts = numbers_text x.item.head.code c.pair_at.result ∷ strings_text (item_on x.board.now x.item.place) ∷ [] in
    let all : Room x.out.now texts = room (line-parts c.requires.0 c.pair_at.ensures) c.requires.1 in
    first all

pub put_strings-requires : goal.put_strings-requires
put_strings-requires c =
    let x = c.args in
    let texts = numbers_text x.item.head.code c.pair_at.result ∷ strings_text (item_on x.board.now x.item.place) ∷ [] in
    let all : Room x.out.now texts = room (line-parts c.requires.0 c.pair_at.ensures) c.requires.1 in
    (c.requires.0, first (rest all c.put_numbers.ensures))

pub returns : goal.returns
returns c =
    rw (line-parts c.requires.0 c.pair_at.ensures)
    (writes_then c.put_numbers.ensures c.put_strings.ensures)
