use Rattle.std.proofs.Common.{sym, arith}
use Rattle.std.proofs.Math.Seq.{length-take-le}
use Rattle.vectors.proofs.Reading.{message-parts}
use Rattle.vectors.proofs.input.show_message.Goals as goal

pub slice_bounds-room-end : goal.slice_bounds-room-end
slice_bounds-room-end g c = omega (arith, (message-parts c.args.text.now c.requires).1)

pub slice_bounds-words-end : goal.slice_bounds-words-end
slice_bounds-words-end g c = sym (length-take-le _ c.read_words-room.result (omega (arith, (message-parts c.args.text.now c.requires).1)))
