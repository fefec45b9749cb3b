-- Check 13 for the config. Paper: "Content", request (v). Assumes nothing.
use Rattle.std.specs.Prelude.{Bool, ◌&&◌}
use Rattle.model.specs.Format.{Format}
use Rattle.model.specs.Item.{Item}
use Rattle.model.specs.History.{History}
use Rattle.model.specs.Content.{genesis_ok, contest_ok, threshold_ok, authorizer_ok, round_ok}

-- the rules of genesis, contest, threshold, authorizer and round
abbrev pub config_ok : Format → History → Item → Bool
config_ok f h i = genesis_ok i && contest_ok f i && threshold_ok i && authorizer_ok i && round_ok h i
