use Rattle.std.proofs.Common.{◌∙◌}
use Rattle.sha512.proofs.Holds.{digest512-held}
use Rattle.vectors.proofs.running.Sha512RunningHash16.finish.Goals as goal

pub returns : goal.returns
returns c m holds = c.finish512.ensures ∙ digest512-held holds
