-- `text::line::row_lines` meets its contract. The invariant: the lines of the first rows are put. Assumes nothing.
use Rattle.model.specs.Program.{row_lines}
use Rattle.text.proofs.Placed.{writes-none}
use Rattle.text.proofs.Rows.{row-word, put-row-more}
use Prim.Native.Nat.{ℕ, ◌*◌, ◌<◌}
use native.Mathlib.Nat.{add-zero}
use lib.ListN.{length-take}
use native.Mathlib.Omega.{arith}
use borrow.Author.Rules.{rules}
use Rattle.text.proofs.line.row_lines.Goals as goal

pub loop-row-init : goal.loop-row-init
unfolding row_lines
loop-row-init c =
    record { put = writes-none c.args.text.now (omega arith); most = search rules }

pub loop-row-preserved : goal.loop-row-preserved
loop-row-preserved c =
    let t = c.args.table.now in
    let k = c.loop-row.row-index in
    let words = c.as_chunks.result.0.now in
    let less : k < c.args.rows = omega (arith, c.as_chunks.ensures.front_len, length-take (3 * c.args.rows) t) in
    let word = λ (j : ℕ) (b : j < 3). row-word t words _ c.args.rows k j c.as_chunks.ensures.front (omega (arith, c.as_chunks.ensures.front_len)) less b in
    let line = rw (word 0 (omega arith), word 1 (omega arith), word 2 (omega arith), add-zero) at c.row_line.ensures in
    let more = put-row-more t k less c.requires.rows (λ i. (c.type_inv.table i).fits) c.loop-row.invariant.put c.loop-row.invariant.most line in
    record { put = more.0; most = more.1 }
