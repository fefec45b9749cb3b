-- `is_earlier_key` meets its contract. Assumes nothing.
use mathlib.Core.Path.{◌∙◌}
use native.Mathlib.Omega.{arith}
use Rattle.model.proofs.Unchecked.{length-history}
use Rattle.format.specs.Format.{format_of}
use Rattle.index.proofs.Reading.{known-within}
use Rattle.state.specs.Reached.{history_before}
use Rattle.keys.proofs.Keys.{key-none, key-past, key-known}
use Rattle.keys.proofs.is_earlier_key.Goals as goal
use Rattle.keys.proofs.is_earlier_key.Goals.{then-number-eq0-via-then-number-eq0, then-number-eq0-via-else-number-eq0+then-next-number}

pub returns-then-number-eq0 : goal.returns-then-number-eq0
returns-then-number-eq0 c =
    let a = c.args in
    let next = a.next.now in
    elim c.then-number-eq0.branch [
      | then-number-eq0-via-then-number-eq0 w ↦ key-none a.key.now c.requires.0 (history_before next) a.k a.number w.if-number-eq0.true
      | then-number-eq0-via-else-number-eq0+then-next-number w ↦
          key-past a.key.now c.requires.0 (history_before next) a.k a.number
          (omega (arith, length-history (format_of next.board.now) next.board.now next.state.items))
    ]

pub is_key-requires : goal.is_key-requires
is_key-requires c = ((known-within c.entry.ensures).content, c.requires.0, c.requires.1)

pub returns : goal.returns
returns c = c.is_key.ensures ∙ key-known c.entry.ensures c.args.key.now c.args.k
