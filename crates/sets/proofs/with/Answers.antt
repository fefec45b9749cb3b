-- `with` meets its contract. Assumes nothing.
use Prim.Native.Nat.{◌/◌, ◌%◌, ◌^◌}
use native.Mathlib.Nat.{mod-lt}
use lib.Dec.{lit<}
use Rattle.sets.proofs.Bits.{one_shl}
use Rattle.sets.proofs.Sets.{set-put}
use borrow.Author.Rules.{rules}
use Rattle.sets.proofs.with.Goals as goal

pub returns : goal.returns
returns c k l =
    let x = c.args in
    let j = x.j in
    rw (one_shl (j % 32) (mod-lt j (lit< tt))) (set-put x.set (j / 32) (2 ^ (j % 32)) k (search rules))
