-- The items that passed, as a history. Assumes nothing.
use Rattle.model.specs.History.{History}
use Rattle.index.specs.Kept.{before}
use Rattle.index.specs.declared.passed.Passed.{Passed}

abbrev pub history_of : Passed → History
history_of p = before p.board.now p.count
