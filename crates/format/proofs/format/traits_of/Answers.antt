-- `format::traits_of` meets its contract. Assumes nothing.
use mathlib.Core.Path.{sym, ◌∙◌}
use Rattle.format.proofs.Traits.{traits-short, traits-headless, traits-unknown, traits-known}
use Rattle.format.proofs.format.traits_of.Goals as goal

pub returns-then-board-le-TRAITS_PLACE : goal.returns-then-board-le-TRAITS_PLACE
returns-then-board-le-TRAITS_PLACE c = traits-short _ c.if-board-le-TRAITS_PLACE.true

pub returns-then-board-ne-TRAITS_HEAD : goal.returns-then-board-ne-TRAITS_HEAD
returns-then-board-ne-TRAITS_HEAD c = traits-headless _ c.if-board-ne-TRAITS_HEAD.true

pub returns-then-is_known : goal.returns-then-is_known
returns-then-is_known c = traits-known _ c.if-board-ne-TRAITS_HEAD.false (sym c.is_known.ensures ∙ c.if-is_known.true)

pub returns : goal.returns
returns c = traits-unknown _ (sym c.is_known.ensures ∙ c.if-is_known.false)
