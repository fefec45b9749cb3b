-- `Hash::finish512` meets its contract.
use Rattle.std.proofs.Common.{rules, ◌≡◌, length, ap, ◌∙◌}
use native.Mathlib.Nat.{le_of_eq}
use lib.Seq.{take_all}
use Rattle.sha512_block.specs.Fips.{to_halves}
use Rattle.sha512.specs.State.{digest512_of}
use Rattle.sha512.proofs.Hash.finish512.Goals as goal

pub returns : goal.returns
unfolding digest512_of
returns c =
    let sized : length c.end.result ≡ 8 = search rules in
    c.halves.ensures ∙ ap to_halves (take_all 8 c.end.result (le_of_eq sized)) ∙ ap to_halves c.end.ensures
