-- What the code finds of two boards, as the model names it. Paper: "Comparing takes a kept board". Assumes nothing.
use Rattle.model.specs.Compare as model
use Rattle.pairs.specs.declared.Agreement.{Agreement}
use Rattle.pairs.specs.declared.Agreement.TheVariants.{Apart, Same, Collision}

abbrev pub agreement_of : Agreement → model.Comparison
agreement_of Apart = model.apart
agreement_of Same = model.same
agreement_of (Collision kept later) = model.collision kept later
