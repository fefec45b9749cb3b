-- What one more item makes of each number of the running state. Paper: "Item types", "Phases", "Content". Assumes nothing.
use Rattle.std.specs.Prelude.{ℕ, suc, ◌/◌, ◌%◌, ◌^◌, Bool, ◌&&◌, eqb}
use Rattle.std.specs.Int.Bits.{bit_or}
use Rattle.model.specs.Lists.{if◌then◌otherwise◌}
use Rattle.model.specs.Words.{set_bits}
use Rattle.model.specs.Codes.{contest_type, round_type}
use Rattle.model.specs.Item.{Item, code, word}
use Rattle.model.specs.Phase.{round_number}

-- the last item that passes a test, and the first: item n is the next, and old is the answer without it
unfoldable pub later : Bool → ℕ → ℕ → ℕ
later test n old = if test then n otherwise old

unfoldable pub earliest : Bool → ℕ → ℕ → ℕ
earliest test n old = if eqb old 0 then (if test then n otherwise 0) otherwise old

-- word k of the defined contests
unfoldable pub contests_after : ℕ → ℕ → Item → ℕ
contests_after k w i = if eqb (code i) contest_type && eqb (word 0 i / set_bits) k then bit_or w (2 ^ (word 0 i % set_bits)) otherwise w

-- the round in force with the number j, where there were so many items
unfoldable pub slot_after : ℕ → ℕ → ℕ → Item → ℕ
slot_after old items j i = if eqb (code i) round_type && eqb (round_number i) j then suc items otherwise old
