-- `is_any_open` meets its contract: the words of the slots are the rounds in force. Assumes nothing.
use Rattle.std.proofs.Common.{rules, tests}
use Rattle.std.proofs.lemmas.Grind.{get_or_default_zero}
use Rattle.std.proofs.lemmas.Iterator.{YieldsList-from_slice}
use Rattle.std.proofs.lemmas.Iterator.Adapters.{serves_from_places}
use Rattle.std.proofs.lemmas.Iterator.Search.{any_from_yields_List}
use Rattle.index.specs.Passed.{history_of}
use Rattle.state.specs.Reached.{history_behind}
use Rattle.state.proofs.Had.{kept-held, stands-held}
use Rattle.rounds.specs.Open.{InForce, open_under}
use Rattle.rounds.proofs.Slots.{force-in, open-slots}
use native.Mathlib.Omega.{arith}
use mathlib.Core.Path.{◌∙◌}
use Rattle.rounds.proofs.is_any_open.Goals as goal

pub any-requires-clause-callable : goal.any-requires-clause-callable
any-requires-clause-callable c =
    let p = c.args.progress.now in
    serves_from_places (YieldsList-from_slice p.state.rounds cc) (λ x q k. search rules)
    (λ x k l e.
    let under : InForce (history_of c.passed-passed.result) x.now =
    rw (c.passed-passed.ensures.board, c.passed-passed.ensures.count) (force-in (kept-held p.reached) (stands-held p.reached) k x.now (omega arith) (e ∙ get_or_default_zero _ _ _ l)) in
    search rules)

pub returns : goal.returns
returns c =
    let p = c.args.progress.now in
    any_from_yields_List (open_under c.args.time (history_behind p)) _ _ _ c.any.ensures.ran (YieldsList-from_slice p.state.rounds cc) (λ x b q k. search (rules, tests))
    ∙ open-slots (kept-held p.reached) (stands-held p.reached) c.args.time (search rules)
