-- A byte looked for in a text.
use Rattle.std.specs.Prelude.{ℕ, List, eqb}
use Rattle.std.specs.List.{position_or_len}

-- the first place of the byte, or the text's length where it is not there
unfoldable pub index_of : ℕ → List ℕ → ℕ
index_of c text = position_or_len (λ d. eqb d c) text
