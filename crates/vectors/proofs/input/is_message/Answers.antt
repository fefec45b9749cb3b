use Rattle.std.proofs.Common.{arith}
use Rattle.std.proofs.lemmas.Grind.{common_steps}
use Rattle.vectors.specs.Input.{is_message}
use Rattle.vectors.proofs.input.is_message.Goals as goal

pub returns-then-line-le-ROOM : goal.returns-then-line-le-ROOM
unfolding is_message
returns-then-line-le-ROOM c = grind (arith, common_steps)

pub returns-else-line-le-ROOM : goal.returns-else-line-le-ROOM
unfolding is_message
returns-else-line-le-ROOM c = grind (arith, common_steps)
