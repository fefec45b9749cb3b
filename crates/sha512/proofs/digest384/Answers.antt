-- `digest384` meets its contract.
use mathlib.Core.Path.{ap, ◌∙◌}
use mathlib.Core.List.{List}
use Prim.Native.Nat.{ℕ}
use lib.ListN.{take}
use Rattle.sha512_block.specs.Fips.{to_halves, hash_words, sha384_words}
use Rattle.sha512.proofs.digest384.Goals as goal

pub returns : goal.returns
unfolding sha384_words
returns c =
    let m = c.args.words.now in
    c.halves.ensures
    ∙ ap (λ (h : List ℕ). to_halves (take 6 h))
    (c.hash_words.ensures ∙ ap (λ (start : List ℕ). hash_words start m) c.start384.ensures)
