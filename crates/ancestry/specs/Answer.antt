-- The answer of listing an item's ancestry, as the model names it.
-- Paper: "One entry lists an item's ancestry". Assumes nothing.
use Rattle.std.specs.Prelude.{ℕ, Result, Ok, Err}
use Rattle.model.specs.Ancestry.{AncestryAnswer, unlisted, listed}
use Rattle.refusal.specs.Number.{number_of}
use Rattle.refusal.specs.declared.Refused.{Refused}

-- how many numbers were written, or what is wrong and the items passed so far
abbrev pub answer_of : Result ℕ Refused → AncestryAnswer
answer_of (Ok n) = listed n
answer_of (Err r) = unlisted (number_of r.refusal) r.items
