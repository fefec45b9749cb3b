-- Test messages.
use Rattle.std.specs.Prelude.{ℕ, zero, suc, ◌+◌, ◌*◌, ◌%◌, cond, List, [], ◌∷◌, ◌++◌, ltb}

-- n words whose bytes count up from 0, and again from 0 behind 255
unfoldable pub counting : ℕ → List ℕ
counting zero = []
counting (suc n) = counting n ++ ((0x0001_0203 + n % 64 * 0x0404_0404) ∷ [])

-- a place to cut a message at: c, but no earlier than from and no later than end
unfoldable pub within : ℕ → ℕ → ℕ → ℕ
within c from end = cond (ltb c from) from (cond (ltb end c) end c)
