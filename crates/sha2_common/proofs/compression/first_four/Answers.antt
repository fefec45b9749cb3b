-- `compression::first_four` meets its contract: four rounds, one after the other.
use Rattle.sha2_common.proofs.Schedule.{onward-four}
use Rattle.sha2_common.proofs.compression.first_four.Goals as goal

pub returns : goal.returns
returns g c =
    let f = g.F.Functions.functions in
    onward-four f (f.words c.args.m.now) g.row.N c.args.t c.first_step-a.ensures c.first_step-b.ensures c.first_step-c.ensures c.first_step.ensures
