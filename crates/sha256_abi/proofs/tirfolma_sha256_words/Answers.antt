-- `tirfolma_sha256_words` meets its contract: by the length of the message.
use mathlib.Core.Path.{◌≡◌, refl, sym}
use mathlib.Core.Bool.{true, false}
use Prim.Native.Nat.{◌^◌}
use native.Mathlib.Omega.{arith}
use borrow.Author.Tests.{lt-ltb, le-ltb}
use lib.Dec.{ltb}
use lib.ListN.{length}
use Rattle.sha256_abi.proofs.tirfolma_sha256_words.Goals as goal

pub returns-then-words-le-LIMIT : goal.returns-then-words-le-LIMIT
returns-then-words-le-LIMIT c =
    let ws = c.args.words.now in
    let short : ltb (length ws) (2 ^ 59) ≡ true = lt-ltb (length ws) (2 ^ 59) (omega arith) in
    record { told = sym short; written = rw short c.digest.ensures }

pub returns : goal.returns
returns c =
    let ws = c.args.words.now in
    let long : ltb (length ws) (2 ^ 59) ≡ false = le-ltb (length ws) (2 ^ 59) (omega arith) in
    record { told = sym long; written = rw long refl }
