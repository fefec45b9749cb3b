-- The items that passed as a history, of how far the audit of a board has come, and of the item after them. Assumes nothing.
use Rattle.std.specs.Prelude.{Bool}
use Rattle.model.specs.Format.{Format}
use Rattle.model.specs.Item as item
use Rattle.model.specs.History.{History}
use Rattle.format.specs.Format.{format_of}
use Rattle.index.specs.Kept.{before, item_after}
use Rattle.state.specs.declared.progress.Progress.{Progress}
use Rattle.state.specs.declared.candidate.Candidate.{Candidate}

abbrev pub history_behind : Progress → History
history_behind p = before p.board.now p.state.items

-- the items before an item that is asked about, and that item
abbrev pub history_before : Candidate → History
history_before c = before c.board.now c.state.items

abbrev pub item_at : Candidate → item.Item
item_at c = item_after c.board.now c.state.items

-- what a rule says of it, in the board's format
abbrev pub rule_at : (Format → History → item.Item → Bool) → Candidate → Bool
rule_at rule c = rule (format_of c.board.now) (history_before c) (item_at c)
