-- `Writer::bytes` meets its contract. Assumes nothing.
use mathlib.Core.Path.{refl, ap, ◌∙◌}
use lib.ListN.{length}
use lib.Seq.{length-sets}
use Rattle.words.proofs.Writing.{part-sets}
use Rattle.text.proofs.writer.Writer.bytes.Goals as goal

pub returns : goal.returns
returns c =
    let u = c.args.self.now in
    let text = c.args.text.now in
    let wrote = part-sets u.out.now _ text u.at _ c.copy_from_slice.ensures.after refl c.requires in record {
      put = record { fits = c.requires; wrote = wrote; behind = refl };
      same = refl;
      room = ap length wrote ∙ length-sets u.out.now u.at text;
    }
