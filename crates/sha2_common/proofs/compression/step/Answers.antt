-- `compression::step` meets its contract: one round.
use Rattle.sha2_common.proofs.Schedule.{onward-read}
use Rattle.sha2_common.proofs.compression.step.Goals as goal

pub returns : goal.returns
returns g c M =
    let a = c.args in
    onward-read
    g.F.Functions.functions M g.row.N a.w.now a.k.now a.t _ c.index-k-t.result a.v _ c.requires.0 c.told-k (c.message_word-x.ensures M) c.round.ensures
    c.requires.2
