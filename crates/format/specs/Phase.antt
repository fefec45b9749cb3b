-- The phase to which items of a type belong. Paper: "Item types" ("The config is types 1 to 6"), "Phases". Assumes nothing.
use Rattle.std.specs.Prelude.{ℕ, Option, Some, None}
use Rattle.format.specs.declared.phase.Phase.{Phase}
use Rattle.format.specs.declared.phase.Phase.TheVariants.{Config, Voting, Extraction, Track}
use Rattle.model.specs.Lists.{if◌then◌otherwise◌}
use Rattle.model.specs.Words.{between}
use Rattle.model.specs.Codes.{genesis_type, round_type, session_type, spoil_type, intent_type, confirmation_type, track_type, server_opening_type}

-- config, voting, extraction, hidden track, or none
unfoldable pub phase_of : ℕ → Option Phase
unfolding if◌then◌otherwise◌
phase_of c =
    if between genesis_type round_type c then Some Config otherwise
    if between session_type spoil_type c then Some Voting otherwise
    if between intent_type confirmation_type c then Some Extraction otherwise
    if between track_type server_opening_type c then Some Track otherwise None
