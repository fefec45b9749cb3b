-- Words fed to a running hash.
use Rattle.std.specs.Prelude.{ℕ, List, []}
use Rattle.sha2_common.specs.Blocks.{HashFunction}
use Rattle.sha2_common.specs.State.{Running, Holds}

-- from h, to which nothing was fed yet, to r by the words xs, from whatever H(0) on
abbrev pub Fed : HashFunction → Running → List ℕ → Running → Type 0
Fed f h xs r = (start : List ℕ) → Holds f start h [] → Holds f start r xs
