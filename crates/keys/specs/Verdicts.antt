-- The verdict on an item, and key fingerprints (the paper's key marks). Paper: "Words on the shelf" (verdicts), "Item types" (writers).
-- Assumes nothing.
use Rattle.std.specs.Prelude.{ℕ, ◌*◌, List}
use Rattle.model.specs.Lists.{part}
use Rattle.model.specs.Format.{key_size, verdict_size}
use Rattle.model.specs.Item.{Item}
use Rattle.model.specs.Keys.{opening, key_of}
use Rattle.format.specs.Table.{writer_of}
use Rattle.format.specs.declared.table.Writer.{Writer}
use Rattle.index.specs.Kept.{before, item_after}

-- "nine words for each item, in board order": those of the item after the first n
abbrev pub verdict_at : List ℕ → ℕ → List ℕ
verdict_at verdicts n = part (verdict_size * n) verdict_size verdicts

-- "A key mark is 8 words": the one that stands at a place of some words
abbrev pub key_in : List ℕ → ℕ → List ℕ
key_in words place = part place key_size words

-- of the item after the first n items of a board: its writer's key, and item 1, which it may be itself
abbrev pub writer_key : List ℕ → ℕ → Writer → List ℕ
writer_key board n writer = key_of (before board n) (writer_of writer) (item_after board n)

abbrev pub opening_of : List ℕ → ℕ → Item
opening_of board n = opening (before board n) (item_after board n)
