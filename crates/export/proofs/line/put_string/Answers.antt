-- `export::line::put_string` meets its contract. Assumes nothing.
use Rattle.text.proofs.Placed.{writes_then}
use Rattle.export.proofs.line.put_string.Goals as goal

pub returns : goal.returns
returns c = writes_then c.bytes.ensures c.put_words.ensures
