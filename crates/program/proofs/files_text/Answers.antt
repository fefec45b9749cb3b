-- `program::files_text` meets its contract. Assumes nothing.
use mathlib.Core.List.{[]}
use Rattle.program.proofs.Texts.{refused-shown, sized-shown}
use Rattle.program.proofs.files_text.Goals as goal

pub returns-in-Err : goal.returns-in-Err
returns-in-Err c = refused-shown c.finding.result _ _ c.finding.ensures c.in-Err.refusal [] c.in-Err.is c.text_of.ensures

pub returns-in-Ok : goal.returns-in-Ok
returns-in-Ok c = sized-shown c.finding.result _ _ c.finding.ensures c.in-Ok.is c.words_text.ensures
