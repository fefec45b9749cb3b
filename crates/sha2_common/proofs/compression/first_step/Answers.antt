-- `compression::first_step` meets its contract: one round.
use Rattle.std.proofs.Common.{sym, ◌∙◌, arith}
use Rattle.sha2_common.proofs.Schedule.{message_word-first, onward-read}
use Rattle.sha2_common.proofs.compression.first_step.Goals as goal

pub returns : goal.returns
returns g c =
    let f = g.F.Functions.functions in
    let a = c.args in
    onward-read
    f (f.words a.m.now) g.row.N a.w.now a.k.now a.t _ c.index-k-t.result a.v _ c.requires.0 c.told-k
    (c.block_word-x.ensures ∙ sym (message_word-first f (f.words a.m.now) a.w.now a.t c.requires.2)) c.round.ensures
    (omega arith)
