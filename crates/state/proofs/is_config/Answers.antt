-- `is_config` meets its contract. Assumes nothing.
use Rattle.state.proofs.Phases.{config-phase}
use Rattle.state.proofs.is_config.Goals as goal

pub returns : goal.returns
returns c = rw (c.eq.ensures, c.of.ensures) (config-phase c.args.code)
