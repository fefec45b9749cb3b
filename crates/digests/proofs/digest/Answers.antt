-- `digest` meets its contract: one way out for each hash. Assumes nothing.
use mathlib.Core.Path.{◌∙◌}
use Rattle.digests.proofs.Digests.{by-384, by-256, whole-512, digest-put}
use Rattle.digests.proofs.digest.Goals as goal

pub returns-then-curve-eq-SECP521R1 : goal.returns-then-curve-eq-SECP521R1
returns-then-curve-eq-SECP521R1 c = whole-512 c.args.curve c.args.message.now c.if-curve-eq-SECP521R1.true c.digest512.ensures

pub returns-then-curve-eq-SECP384R1 : goal.returns-then-curve-eq-SECP384R1
returns-then-curve-eq-SECP384R1 c =
    let curve = c.args.curve in
    let message = c.args.message.now in
    digest-put curve message (c.digest384-sha384.ensures ∙ by-384 curve message c.if-curve-eq-SECP384R1.true) c.put.ensures

pub returns : goal.returns
returns c =
    let curve = c.args.curve in
    let message = c.args.message.now in
    digest-put curve message
    (c.digest-sha256.ensures ∙ by-256 curve message c.if-curve-eq-SECP521R1.false c.if-curve-eq-SECP384R1.false)
    c.put-2.ensures
