-- `digest512` meets its contract.
use Rattle.std.proofs.Common.{rules, ◌≡◌, length, ap, ◌∙◌}
use native.Mathlib.Nat.{le_of_eq}
use lib.Seq.{take_all}
use mathlib.Core.List.{List}
use Prim.Native.Nat.{ℕ}
use Rattle.sha512_block.specs.Fips.{to_halves, hash_words, sha512_words}
use Rattle.sha512.proofs.digest512.Goals as goal

pub returns : goal.returns
unfolding sha512_words
returns c =
    let m = c.args.words.now in
    let sized : length c.hash_words.result ≡ 8 = search rules in
    c.halves.ensures ∙ ap to_halves (take_all 8 c.hash_words.result (le_of_eq sized))
    ∙ ap to_halves
    (c.hash_words.ensures ∙ ap (λ (start : List ℕ). hash_words start m) c.start512.ensures)
