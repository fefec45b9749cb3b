-- The outcome at the closing word, behind the items that passed. Paper: "At the closing word", request (viii). Assumes nothing.
use Rattle.std.specs.Prelude.{ℕ, List}
use Rattle.model.specs.Audit.{Outcome, closing_ok, closing}
use Rattle.index.specs.Kept.{before}
use Rattle.state.specs.declared.State.{State}

abbrev pub closing_outcome : (board verdicts : List ℕ) → State → Outcome
closing_outcome board verdicts s = closing (closing_ok board verdicts (before board s.items) s.place) (before board s.items)
