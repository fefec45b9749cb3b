-- `compression::intermediate` meets its contract.
use Rattle.sha2_common.proofs.Schedule.{intermediate-made}
use Rattle.sha2_common.proofs.compression.intermediate.Goals as goal

pub returns : goal.returns
returns g c =
    intermediate-made
    g.F.Functions.functions c.args.h c.args.v c.initialize-before.result c.initialize-before.ensures c.add.ensures c.add-2.ensures
    c.add-3.ensures c.add-4.ensures c.add-5.ensures c.add-6.ensures c.add-7.ensures c.add-8.ensures
