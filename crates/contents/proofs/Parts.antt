-- The three parts of check 13 together. Assumes nothing.
use mathlib.Core.Path.{◌≡◌}
use mathlib.Core.Bool.{Bool, ◌&&◌}
use Rattle.model.specs.Format.{Format}
use Rattle.model.specs.Item.{Item}
use Rattle.model.specs.History.{History}
use Rattle.model.specs.Content.{content_ok}
use Rattle.model.proofs.Tests.{by-test}
use Rattle.config.specs.Rules.{config_ok}
use Rattle.voting.specs.Rules.{voting_ok}
use Rattle.extraction.specs.Rules.{extraction_ok}

module _ (f : Format) (h : History) (i : Item) where
  abbrev config : Bool
  config = config_ok f h i

  abbrev voting : Bool
  voting = voting_ok f h i

  abbrev extraction : Bool
  extraction = extraction_ok f h i

  pub content-is : content_ok f h i ≡ (config && voting && extraction)
  unfolding content_ok
  content-is = by-test config (λ q. rw q (by-test voting (λ r. rw r) (λ r. rw r))) (λ q. rw q)
