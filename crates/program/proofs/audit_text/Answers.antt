-- `program::audit_text` meets its contract. Assumes nothing.
use Rattle.format.specs.Format.{format_of}
use Rattle.program.proofs.Texts.{audit-shown, rows_fit}
use native.Mathlib.Omega.{arith}
use Rattle.program.proofs.audit_text.Goals as goal

pub text_of-requires : goal.text_of-requires
text_of-requires c =
    let a = c.audit-report in
    let s = c.args.submission.now in
    let fits = rows_fit (format_of s.board.now) s.board.now s.verdicts.now s.roll.now _ _ _ a.ensures.answer (omega arith) in record {
      room = omega arith;
      rows = omega (arith, a.auto.ballots);
    }

pub returns : goal.returns
returns c =
    let a = c.audit-report in
    let s = c.args.submission.now in
    audit-shown s.board.now s.verdicts.now s.roll.now _ _ _ _ _ a.ensures.answer a.ensures.ballots c.text_of.ensures
