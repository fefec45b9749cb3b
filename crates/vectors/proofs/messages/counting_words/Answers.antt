use Rattle.std.proofs.Common.{rules, arith}
use Rattle.vectors.proofs.Counting.{counted}
use Rattle.vectors.proofs.messages.counting_words.Goals as goal

pub returns : goal.returns
returns c =
    let r = c.from_fn.ensures.items in
    counted c.from_fn.result (λ i l. let (p, q, called) = r.at i 0 (omega (arith, r.long)) in search (rules, called, called.met)) 65 r.long
