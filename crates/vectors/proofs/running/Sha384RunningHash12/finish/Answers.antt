use Rattle.std.proofs.Common.{◌∙◌}
use Rattle.sha512.proofs.Holds.{digest384-held}
use Rattle.vectors.proofs.running.Sha384RunningHash12.finish.Goals as goal

pub returns : goal.returns
returns c m holds = c.finish384.ensures ∙ digest384-held holds
