-- `program::answer` meets its contract. Assumes nothing.
use lib.ListN.{length-take}
use Rattle.program.proofs.Texts.{printed-shown, shown-within}
use native.Mathlib.Omega.{arith}
use Rattle.program.proofs.answer.Goals as goal

pub slice_bounds-files_text-end : goal.slice_bounds-files_text-end
slice_bounds-files_text-end c = rw length-take (omega (arith, c.min.ensures))

pub slice_bounds-files_text-end-2 : goal.slice_bounds-files_text-end-2
slice_bounds-files_text-end-2 c = rw length-take (omega (arith, c.min-2.ensures))

pub slice_bounds-files_text-end-3 : goal.slice_bounds-files_text-end-3
slice_bounds-files_text-end-3 c = rw length-take (omega (arith, c.min-3.ensures))

pub files_text-requires : goal.files_text-requires
files_text-requires c =
    record {
      room = omega arith;
      board = rw length-take (omega arith);
      verdicts = rw length-take (omega arith);
      roll = rw length-take (omega arith);
    }

pub returns : goal.returns
returns c =
    let shown = c.files_text.ensures in record {
      within = shown-within shown c.files_text.auto.out;
      text = λ b v w x y z.
          printed-shown c.args.board.now c.args.verdicts.now c.args.roll.now b v w
          c.args.sizes.board c.args.sizes.verdicts c.args.sizes.roll c.min.result c.min-2.result c.min-3.result
          c.requires.board c.requires.verdicts c.requires.roll c.min.ensures c.min-2.ensures c.min-3.ensures x y z shown;
    }
