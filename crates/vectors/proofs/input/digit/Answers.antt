use Rattle.vectors.specs.Scan.{index_of}
use Rattle.vectors.specs.Hexadecimal.{digits, digit, digit_value}
use Rattle.vectors.proofs.input.digit.Goals as goal

pub returns : goal.returns
unfolding index_of digits digit digit_value
returns c = c.find.ensures
