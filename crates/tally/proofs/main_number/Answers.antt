-- `main_number` meets its contract. Assumes nothing.
use Prim.Native.Nat.{◌-◌}
use native.Mathlib.Omega.{arith}
use Rattle.model.proofs.Unchecked.{length-history}
use Rattle.format.specs.Format.{format_of}
use Rattle.index.specs.Passed.{history_of}
use Rattle.index.proofs.Had.{kept-had}
use Rattle.tally.proofs.Casts.{number_small, number_is}
use Rattle.tally.proofs.main_number.Goals as goal

pub overflow_add-result : goal.overflow_add-result
overflow_add-result c = omega (arith, c.mains_before.ensures, number_small (kept-had c.args.passed.now.kept) (c.args.k - 1))

pub overflow_cast-result : goal.overflow_cast-result
overflow_cast-result c = omega (arith, c.mains_before.ensures, number_small (kept-had c.args.passed.now.kept) (c.args.k - 1))

pub returns : goal.returns
returns c =
    let (low, high, main) = c.requires in
    let p = c.args.passed.now in
    rw c.mains_before.ensures
    (number_is (history_of p) c.args.k low (omega (arith, length-history (format_of p.board.now) p.board.now p.count)) main)
