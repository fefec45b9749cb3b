use Rattle.std.proofs.Common.{◌∙◌}
use Rattle.sha256.proofs.Holds.{digest-held}
use Rattle.vectors.proofs.running.Sha256RunningHash8.finish.Goals as goal

pub returns : goal.returns
returns c m holds = c.finish.ensures ∙ digest-held holds
