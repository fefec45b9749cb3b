-- `State::after` meets its contract. Assumes nothing.
use Prim.Native.Nat.{◌+◌}
use native.Mathlib.Omega.{arith}
use mathlib.Core.Bool.{Bool}
use mathlib.Core.Path.{refl, ap, ◌∙◌}
use Rattle.index.proofs.Had.{passing-had}
use Rattle.state.specs.After.{later}
use Rattle.state.proofs.Next.{passing-next}
use Rattle.state.proofs.Step.{mains-few, stands_after}
use Rattle.state.proofs.State.after.Goals as goal

pub overflow_add-self : goal.overflow_add-self
overflow_add-self c =
    let a = c.args.addition.now in
    omega (arith, mains-few a.board.now c.args.self c.requires.stands, (passing-had a.passing).more, c.requires.count)

pub returns : goal.returns
returns c =
    let old = c.args.self in
    let a = c.args.addition.now in (
      refl,
      stands_after c.requires.stands (passing-next (rw c.requires.count at (passing-had a.passing))) (record {
        place = refl;
        items = refl;
        mains = c.later.ensures;
        last = c.later-2.ensures;
        config = c.later-3.ensures
            ∙ ap (λ (b : Bool). later b (old.items + 1) old.config) c.is_config.ensures;
        threshold = c.earliest.ensures;
        authorizer = c.later-4.ensures;
        intent = c.earliest-2.ensures;
        contests = rw c.requires.count at c.contests_after.ensures;
        rounds = rw c.requires.count at c.rounds_after.ensures;
        ballots = c.requires.ballots_value;
      }),
    )
