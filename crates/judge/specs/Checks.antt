-- The model's checks of the item at hand, in the parts in which the code makes them. Paper: "Refusals and their order". Assumes nothing.
use Rattle.std.specs.Prelude.{ℕ, List, get_or, take, drop}
use Rattle.model.specs.Words.{kind_of, code_of}
use Rattle.model.specs.Types as types
use Rattle.model.specs.Roll.{Eligibility}
use Rattle.model.specs.Audit.{Check, checks}
use Rattle.format.specs.Format.{format_of}
use Rattle.format.specs.Table.{writer_of, parent_rule_of, counts_of}
use Rattle.format.specs.declared.table.Row.{Row}
use Rattle.index.specs.Kept.{before, item_after}
use Rattle.state.specs.declared.State.{State}
use Rattle.state.specs.declared.candidate.ListedItem.{ListedItem}

-- the model's row of the item's head, from the code's
abbrev pub row_with : List ℕ → State → Row → types.Row
row_with board s row = record {
  code = code_of (get_or board s.place 0);
  kind = kind_of (get_or board s.place 0);
  writer = writer_of row.writer;
  parent = parent_rule_of row.parent;
  counts = counts_of row.counts;
}

-- 7 to 16 and 21, of the item after those that passed, with its verdict words v
abbrev pub checks_of : List ℕ → Eligibility → List ℕ → State → Row → List Check
checks_of board eligible v s row = checks (format_of board) eligible (before board s.items) v (row_with board s row) (item_after board s.items)

abbrev pub checks_at : ListedItem → Eligibility → List ℕ → List Check
checks_at l eligible v = checks_of l.candidate.now.board.now eligible v l.candidate.now.state l.row

-- of these 7 to 10, 11 to 13 and 21, and 14 to 16
abbrev pub link_checks : List Check → List Check
link_checks cs = take 4 cs

abbrev pub rule_checks : List Check → List Check
rule_checks cs = take 4 (drop 4 cs)

abbrev pub verdict_checks : List Check → List Check
verdict_checks cs = drop 4 (drop 4 cs)
