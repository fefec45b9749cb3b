-- Check 13 for extraction. Paper: "Content". Assumes nothing.
use Rattle.std.specs.Prelude.{Bool, ◌&&◌}
use Rattle.model.specs.Format.{Format}
use Rattle.model.specs.Item.{Item}
use Rattle.model.specs.History.{History}
use Rattle.model.specs.Content.{fingerprint_ok, trustees_ok}

-- the rules of extraction data and confirmation
abbrev pub extraction_ok : Format → History → Item → Bool
extraction_ok f h i = fingerprint_ok f h i && trustees_ok h i
