-- `export::line::put_numbers` meets its contract. Assumes nothing.
use Rattle.exporting.specs.Json.{bytes_of}
use Rattle.text.proofs.Placed.{writes_then}
use Rattle.export.proofs.Parts.{Room, room, first, rest, number_parts, numbers-parts}
use Rattle.export.proofs.line.put_numbers.Goals as goal

pub bytes-requires : goal.bytes-requires
unfolding bytes_of
bytes-requires c =
    let all : Room c.args.out.now (number_parts c.args.code c.args.time) = room (numbers-parts c.args.code c.args.time) c.requires in
    first all

pub decimal-requires : goal.decimal-requires
unfolding bytes_of
decimal-requires c =
    let all : Room c.args.out.now (number_parts c.args.code c.args.time) = room (numbers-parts c.args.code c.args.time) c.requires in
    first (rest all c.bytes.ensures)

pub bytes-requires-2 : goal.bytes-requires-2
unfolding bytes_of
bytes-requires-2 c =
    let all : Room c.args.out.now (number_parts c.args.code c.args.time) = room (numbers-parts c.args.code c.args.time) c.requires in
    first (rest (rest all c.bytes.ensures) c.decimal.ensures)

pub decimal-requires-2 : goal.decimal-requires-2
unfolding bytes_of
decimal-requires-2 c =
    let all : Room c.args.out.now (number_parts c.args.code c.args.time) = room (numbers-parts c.args.code c.args.time) c.requires in
    first (rest (rest (rest all c.bytes.ensures) c.decimal.ensures) c.bytes-2.ensures)

pub returns : goal.returns
unfolding bytes_of
returns c =
    let x = c.args in
    rw (numbers-parts x.code x.time)
    (writes_then c.bytes.ensures (writes_then c.decimal.ensures (writes_then c.bytes-2.ensures c.decimal-2.ensures)))
