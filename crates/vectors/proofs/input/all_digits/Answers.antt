use Rattle.std.proofs.Common.{rules}
use Rattle.vectors.proofs.Hexadecimal.{digits-told}
use Rattle.vectors.proofs.input.all_digits.Goals as goal

pub returns : goal.returns
returns c = digits-told c.args.text.now c.all.result (search rules) (search rules)
