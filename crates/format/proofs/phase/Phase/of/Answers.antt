-- `Phase::of` meets its contract. Assumes nothing.
use mathlib.Core.Path.{sym, ◌∙◌}
use Rattle.format.proofs.Phases.{in-config, in-voting, in-extraction, in-track, in-none}
use Rattle.format.proofs.phase.Phase.of.Goals as goal

pub returns-then-is_between : goal.returns-then-is_between
returns-then-is_between c = in-config _ (sym c.is_between.ensures ∙ c.if-is_between.true)

pub returns-then-is_between-2 : goal.returns-then-is_between-2
returns-then-is_between-2 c =
    in-voting _ (sym c.is_between.ensures ∙ c.if-is_between.false) (sym c.is_between-2.ensures ∙ c.if-is_between-2.true)

pub returns-then-is_between-3 : goal.returns-then-is_between-3
returns-then-is_between-3 c =
    in-extraction _ (sym c.is_between.ensures ∙ c.if-is_between.false) (sym c.is_between-2.ensures ∙ c.if-is_between-2.false) (sym c.is_between-3.ensures ∙ c.if-is_between-3.true)

pub returns-then-is_between-4 : goal.returns-then-is_between-4
returns-then-is_between-4 c =
    in-track _ (sym c.is_between.ensures ∙ c.if-is_between.false) (sym c.is_between-2.ensures ∙ c.if-is_between-2.false) (sym c.is_between-3.ensures ∙ c.if-is_between-3.false) (sym c.is_between-4.ensures ∙ c.if-is_between-4.true)

pub returns : goal.returns
returns c =
    in-none _ (sym c.is_between.ensures ∙ c.if-is_between.false) (sym c.is_between-2.ensures ∙ c.if-is_between-2.false) (sym c.is_between-3.ensures ∙ c.if-is_between-3.false) (sym c.is_between-4.ensures ∙ c.if-is_between-4.false)
