-- The words of a row of the index table as the code reads and writes them. Paper: "Refusals and their order" (index rows), request (vii).
-- Assumes nothing.
use Rattle.std.specs.Prelude.{List, ℕ, set, eqb}
use Rattle.model.specs.Lists.{if◌then◌otherwise◌}
use Rattle.model.specs.History.{cast_or_spoil}
use Rattle.model.specs.Report.{no_number, closer_column, row_place}
use Rattle.index.specs.declared.Known.{Known}

-- an item number from its word, 0 where there is none
unfoldable pub number_in : ℕ → ℕ
number_in w = if eqb w no_number then 0 otherwise w

-- the table with item n written into the row of the ballot that it closes
unfoldable pub closed_by : Known → ℕ → List ℕ → List ℕ
closed_by c n table = if cast_or_spoil c.item.head.code then set table (row_place c.parent closer_column) n otherwise table
