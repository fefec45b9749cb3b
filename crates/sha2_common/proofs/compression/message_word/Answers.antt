-- `compression::message_word` meets its contract.
use Rattle.std.proofs.Common.{arith}
use Rattle.sha2_common.proofs.Schedule.{message_word-made}
use Rattle.sha2_common.proofs.compression.message_word.Goals as goal

pub returns : goal.returns
returns g c M =
    message_word-made
    g.F.Functions.functions M c.args.w.now c.args.t c.index-w-t.result c.index-w-t-2.result c.index-w-t-3.result c.index-w-t-4.result
    c.requires.0 (omega (arith, c.told-w)) c.small_sigma1.ensures c.add.ensures c.small_sigma0.ensures c.add-2.ensures c.add-3.ensures
