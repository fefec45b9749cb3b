-- `pass` meets its contract. Assumes nothing.
use Rattle.step.proofs.Advancing.{mains-before, reached-next}
use Rattle.step.proofs.pass.Goals as goal

pub put-requires : goal.put-requires
put-requires c = (c.requires.1, mains-before c.requires.0.stands)

pub returns : goal.returns
returns c =
    let next = c.after-next.ensures in
    (next.0, reached-next c.args.s next.0 c.put.ensures next.1 c.after-rows.ensures.0 (c.link.ensures.parents, c.link.ensures.sessions))
