-- `size::of_text` meets its contract. The invariant: the lines of the first items are counted. Assumes nothing.
use native.Mathlib.Omega.{arith}
use mathlib.Core.Path.{◌≡◌, sym, ap}
use lib.ListN.{length}
use Rattle.index.proofs.Had.{kept-had}
use Rattle.export.proofs.Items.{export_text-none, total-next}
use Rattle.export.proofs.size.of_text.Goals as goal

pub loop-done-init : goal.loop-done-init
loop-done-init c = (ap length (sym (export_text-none _)), omega arith)

pub overflow_add-total : goal.overflow_add-total
overflow_add-total c =
    let few = (kept-had c.args.passed.now.kept).few in
    let so_far = c.loop-done.invariant.1 in
    omega (arith, c.of_next-total.ensures.few)

pub loop-done-preserved : goal.loop-done-preserved
loop-done-preserved c =
    let so_far = c.loop-done.invariant in (
      (total-next _ _ c.loop-done.done c.loop-done-test.true so_far.0 c.of_next-total.ensures.size).1,
      omega (arith, so_far.1, c.of_next-total.ensures.few),
    )

pub returns : goal.returns
returns c =
    let few = (kept-had c.args.passed.now.kept).few in
    let all : c.loop-done.done ≡ c.args.passed.now.count = omega arith in
    let so_far = c.loop-done.invariant in
    record { size = rw all at so_far.0; few = omega (arith, so_far.1) }
