-- `compression::four_steps` meets its contract: four rounds, one after the other.
use Rattle.sha2_common.proofs.Schedule.{onward-four}
use Rattle.sha2_common.proofs.compression.four_steps.Goals as goal

pub returns : goal.returns
returns g c M =
    let f = g.F.Functions.functions in
    onward-four f M g.row.N c.args.t (c.step-a.ensures M) (c.step-b.ensures M) (c.step-c.ensures M) (c.step.ensures M)
