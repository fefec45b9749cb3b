-- `compression::compress` meets its contract.
use Rattle.sha2_common.proofs.Schedule.{reached-none, schedule-end, compress-end}
use Rattle.sha2_common.proofs.compression.compress.Goals as goal

pub returns-clause-value : goal.returns-clause-value
returns-clause-value g c =
    let f = g.F.Functions.functions in
    let M = f.words c.args.m.now in
    let begun = reached-none f M g.row.N c.args.w.now c.initialize-start.result c.requires.2 in
    let s = c.later_rounds-v.ensures M c.initialize-start.result (c.first_rounds-after.ensures c.initialize-start.result begun) in
    compress-end f g.row.N c.args.h M c.initialize-start.ensures s c.intermediate.ensures

pub returns-clause-room : goal.returns-clause-room
returns-clause-room g c =
    let f = g.F.Functions.functions in
    let M = f.words c.args.m.now in
    let begun = reached-none f M g.row.N c.args.w.now c.initialize-start.result c.requires.2 in
    schedule-end
    f M g.row.N (c.later_rounds-v.ensures M c.initialize-start.result (c.first_rounds-after.ensures c.initialize-start.result begun))
