-- `export_accepted` meets its contract. Assumes nothing.
use mathlib.Core.Path.{◌≡◌}
use lib.ListN.{length}
use Rattle.exporting.specs.Export.{export_text}
use Rattle.index.specs.Passed.{history_of}
use Rattle.export.proofs.Writing.{answered-short, answered-whole}
use Rattle.export.proofs.export_accepted.Goals as goal

pub returns-then-text-bytes : goal.returns-then-text-bytes
returns-then-text-bytes c =
    let size : c.of_text-bytes.result ≡ length (export_text (history_of c.args.passed.now)) = c.of_text-bytes.ensures.size in
    let (bytes, text) = answered-short c.args.text.now _ size c.if-text-bytes.true in
    record { bytes = bytes; text = text }

pub returns : goal.returns
returns c =
    let size : c.of_text-bytes.result ≡ length (export_text (history_of c.args.passed.now)) = c.of_text-bytes.ensures.size in
    let (bytes, text) = answered-whole c.args.text.now _ size c.if-text-bytes.false c.put_all.ensures in
    record { bytes = bytes; text = text }
