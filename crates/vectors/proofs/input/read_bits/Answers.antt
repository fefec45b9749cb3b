use Rattle.vectors.proofs.Reading.{bits-none, bits-read}
use Rattle.vectors.proofs.input.read_bits.Goals as goal

pub returns-then-not-all_digits : goal.returns-then-not-all_digits
returns-then-not-all_digits c = bits-none c.args.text.now c.all_digits.ensures c.if-not-all_digits.true

pub returns : goal.returns
returns c =
    bits-read c.args.text.now c.all_digits.ensures c.if-not-all_digits.false c.requires c.number.ensures.0 c.number.ensures.1 c.hash_of.ensures
