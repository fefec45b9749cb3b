-- `Hash::finish` meets its contract: what it hashes last is what was pending and the padding.
use mathlib.Core.Path.{◌≡◌, ap, ◌∙◌}
use Prim.Native.Nat.{ℕ, ◌%◌}
use mathlib.Core.List.{List}
use native.Mathlib.Omega.{arith}
use lib.ListN.{length}
use lib.Seq.{length-take-le}
use Rattle.sha2_common.specs.State as sha2
use Rattle.sha256_blocks.specs.Blocks.{sha256_function, hash_over}
use Rattle.sha256.specs.State.{running, digest_of}
use Rattle.sha256.specs.declared.Hash.{Hash}
use Rattle.sha256.proofs.Ending.{end-within, length_last, last-blocks}
use borrow.Author.Rules.{rules}
use Rattle.sha256.proofs.Hash.finish.Goals as goal

abbrev pending : Hash → List ℕ
pending s = sha2.pending sha256_function (running s)

few : (s : Hash) → length s.running.block ≡ 16 → length (pending s) ≡ s.running.count % 16
few s n = length-take-le (s.running.count % 16) s.running.block (omega (arith, n))

pub slice_bounds-m-end : goal.slice_bounds-m-end
slice_bounds-m-end c =
    end-within c.args.self.running.count (pending c.args.self) (few c.args.self (search rules)) _ c.store.ensures _ _ _ _ _ _

pub slice_bounds-compress_blocks-end : goal.slice_bounds-compress_blocks-end
slice_bounds-compress_blocks-end c =
    length_last c.args.self.running.count (pending c.args.self) (few c.args.self (search rules)) _ c.store.ensures _ _ _ _ _ _

pub returns : goal.returns
unfolding digest_of sha2.ended
returns c =
    c.compress_blocks-self.ensures
    ∙ ap (hash_over c.args.self.running.chain)
    (last-blocks c.args.self.running.count (pending c.args.self) (few c.args.self (search rules)) _ c.store.ensures c.requires)
