-- `compress` meets its contract.
use Rattle.std.proofs.Common.{◌∙◌}
use Rattle.sha512_block.specs.Fips.{from_halves}
use Rattle.sha512_block.proofs.Rounds.{schedule-same, compress-same}
use Rattle.sha512_block.proofs.compress.Goals as goal

pub returns-clause-value : goal.returns-clause-value
returns-clause-value c = c.compress.ensures.value ∙ compress-same c.args.h (from_halves c.args.m.now)

pub returns-clause-room : goal.returns-clause-room
returns-clause-room c = c.compress.ensures.room ∙ schedule-same (from_halves c.args.m.now) 80
