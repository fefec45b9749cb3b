-- `judge` meets its contract: its three tests are the definition's. Assumes nothing.
use native.Mathlib.Omega.{arith}
use mathlib.Core.Path.{◌∙◌}
use Rattle.index.proofs.Reading.{known-within}
use Rattle.notes.proofs.Places.{placed}
use Rattle.notes.proofs.Noted.{noted-inside, noted-time, known-time}
use Rattle.notes.proofs.Wrong.{no_item, in-disorder, too-early, agrees}
use Rattle.notes.proofs.judge.Goals as goal

pub returns-then-item-eq0 : goal.returns-then-item-eq0
returns-then-item-eq0 c = no_item _ _ _ c.args.k c.requires.item_value c.if-item-eq0.true

pub returns-then-item-last : goal.returns-then-item-last
returns-then-item-last c =
    in-disorder _ _ _ c.args.k c.requires.item_value c.if-item-eq0.false c.requires.last_value c.if-item-last.true

pub entry-e-requires : goal.entry-e-requires
entry-e-requires c = (omega (arith, c.if-item-eq0.false), noted-inside _ _ _ c.requires.item_value)

pub pair_at-requires : goal.pair_at-requires
pair_at-requires c = let at = placed c.args.held.now.whole c.size.ensures c.requires.k_bound in at.time

pub pair_at-requires-2 : goal.pair_at-requires-2
pair_at-requires-2 c = (known-within c.entry-e.ensures).time

pub returns-then-pair_at : goal.returns-then-pair_at
returns-then-pair_at c =
    let told = noted-time _ _ c.args.k c.size.ensures c.pair_at.ensures in
    too-early _ _ _ c.args.k c.requires.item_value c.if-item-eq0.false c.requires.last_value c.if-item-last.false told
    (c.pair_at-2.ensures ∙ known-time c.entry-e.ensures) c.if-pair_at.true

pub returns : goal.returns
returns c =
    let told = noted-time _ _ c.args.k c.size.ensures c.pair_at.ensures in
    agrees _ _ _ c.args.k c.requires.item_value c.if-item-eq0.false c.requires.last_value c.if-item-last.false told
    (c.pair_at-2.ensures ∙ known-time c.entry-e.ensures) c.if-pair_at.false
