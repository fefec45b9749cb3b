-- The sizes of a block.
use Rattle.std.specs.Prelude.{◌≡◌, ℕ, ◌⊎◌}

-- a block has 512 bits, as in SHA-256, or 1024, as in SHA-384 and SHA-512 (FIPS 180-4, 1, figure 1): 16 or 32 words
abbrev pub IsSize : ℕ → Type 0
IsSize s = (s ≡ 16) ⊎ (s ≡ 32)
