-- `halves` meets its contract.
use Rattle.std.proofs.Common.{rules, ◌≡◌, ℕ, ◌+◌, ◌*◌, ◌/◌, ◌%◌, ◌^◌, [], length, get_or, set, ◌∙◌, arith, length-set}
use lib.ListN.{length-replicate}
use Rattle.sha512.proofs.Written.{halves-none, halves-next}
use Rattle.sha512.proofs.halves.Goals as goal

pub loop-i-init : goal.loop-i-init
loop-i-init g c = (length-replicate {A = ℕ} g.row.D 0, halves-none [] [])

pub loop-i-preserved : goal.loop-i-preserved
loop-i-preserved g c =
    let l = c.loop-i in
    let h = c.args.h in
    let w = get_or h l.i 0 in
    let n : length h ≡ 8 = search rules in (
      length-set (set l.d (l.i * 2) (w / 2 ^ 32)) (l.i * 2 + 1) (w % 2 ^ 32) ∙ length-set l.d (l.i * 2) (w / 2 ^ 32) ∙ l.invariant.0,
      halves-next h l.d l.i (omega arith) c.loop-i-test.element_fits.fits (omega arith) l.invariant.1,
    )
