-- `State::new` meets its contract. Assumes nothing.
use mathlib.Core.Path.{refl}
use lib.ListN.{get_or-replicate}
use Rattle.state.proofs.Step.{stands-new}
use Rattle.state.proofs.State.new.Goals as goal

pub returns : goal.returns
returns c = (
  refl,
  stands-new (record {
    place = refl;
    items = refl;
    mains = refl;
    last = refl;
    config = refl;
    threshold = refl;
    authorizer = refl;
    intent = refl;
    contests = λ k l. get_or-replicate 8 k 0 0 l;
    rounds = λ j l. get_or-replicate 16 j 0 0 l;
    ballots = refl;
  }),
)
