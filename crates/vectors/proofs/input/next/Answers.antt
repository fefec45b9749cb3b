use Rattle.vectors.proofs.Reading.{next-bits, next-none, next-message, next-unknown}
use Rattle.vectors.proofs.input.next.Goals as goal

pub returns-then-line-eq3 : goal.returns-then-line-eq3
returns-then-line-eq3 g c bits stands = next-bits bits _ stands c.if-line-eq3.true c.read_bits.ensures

pub returns-then-not-is_message : goal.returns-then-not-is_message
returns-then-not-is_message g c bits stands = next-none bits _ stands c.if-line-eq3.false c.is_message.ensures c.if-not-is_message.true

pub returns-in_default : goal.returns-in_default
returns-in_default g c bits stands =
    next-unknown bits _ stands c.if-line-eq3.false c.is_message.ensures c.if-not-is_message.false c.in_default.is

pub returns : goal.returns
returns g c bits stands = next-message bits _ stands c.if-line-eq3.false c.is_message.ensures c.if-not-is_message.false c.in-Some.is
