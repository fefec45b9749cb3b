-- `program::words_text` meets its contract. Assumes nothing.
use mathlib.Core.Path.{refl, sym}
use Rattle.model.proofs.Program.{length-from-bytes}
use Rattle.program.proofs.Texts.{front}
use Rattle.program.proofs.words_text.Goals as goal

pub slice_bounds-submission-end : goal.slice_bounds-submission-end
slice_bounds-submission-end c = rw (c.words_of.ensures, front c.args.board.now _ _ refl) (sym (length-from-bytes c.args.board.now))

pub slice_bounds-submission-end-2 : goal.slice_bounds-submission-end-2
slice_bounds-submission-end-2 c = rw (c.words_of-2.ensures, front c.args.verdicts.now _ _ refl) (sym (length-from-bytes c.args.verdicts.now))

pub slice_bounds-submission-end-3 : goal.slice_bounds-submission-end-3
slice_bounds-submission-end-3 c = rw (c.words_of-3.ensures, front c.args.roll.now _ _ refl) (sym (length-from-bytes c.args.roll.now))

pub returns : goal.returns
returns c =
    rw (
      c.words_of.ensures,
      front c.args.board.now _ _ refl,
      c.words_of-2.ensures,
      front c.args.verdicts.now _ _ refl,
      c.words_of-3.ensures,
      front c.args.roll.now _ _ refl,
    ) at c.audit_text.ensures
