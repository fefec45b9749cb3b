-- `compress` meets its contract.
use Rattle.std.proofs.Common.{◌∙◌}
use Rattle.sha256_block.proofs.Rounds.{schedule-same, compress-same}
use Rattle.sha256_block.proofs.compress.Goals as goal

pub returns-clause-value : goal.returns-clause-value
returns-clause-value c = c.compress.ensures.value ∙ compress-same c.args.h c.args.m.now

pub returns-clause-room : goal.returns-clause-room
returns-clause-room c = c.compress.ensures.room ∙ schedule-same c.args.m.now 64
