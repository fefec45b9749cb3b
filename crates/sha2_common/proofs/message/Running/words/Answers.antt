-- `Running::words` meets its contract: words that fill the block up, whole blocks, and words left over.
use Rattle.std.proofs.Common.{rules, ◌≡◌, length}
use native.Mathlib.Nat.{le_of_eq, lt_of_le_of_lt}
use Rattle.sha2_common.specs.Blocks.{hash_of}
use Rattle.sha2_common.specs.State.{running}
use Rattle.sha2_common.proofs.Feed.{first_part, whole_part, whole-fits, none-behind, last_fits, whole-within, last-all, fed-count, fed-three}
use Rattle.sha2_common.proofs.message.Running.words.Goals as goal

pub blocks-self-requires : goal.blocks-self-requires
blocks-self-requires g c =
    let f = hash_of g.row.S g.H.Blocks.step g.H.Blocks.padding in
    let z = g.met.H.Blocks.sized in
    let k = c.args.self.count in
    let xs = c.args.s.now in
    let p = c.if-n-missing.false in
    let n = fed-count f (running c.args.self) (first_part f k xs) c.fill-self.ensures in
    (search rules, (whole-fits f z k xs p n, lt_of_le_of_lt (whole-within f z k xs p n) c.requires))

pub fill-self-requires-2 : goal.fill-self-requires-2
fill-self-requires-2 g c =
    let f = hash_of g.row.S g.H.Blocks.step g.H.Blocks.padding in
    let z = g.met.H.Blocks.sized in
    let k = c.args.self.count in
    let xs = c.args.s.now in
    let p = c.if-n-missing.false in
    let n = fed-count f (running c.args.self) (first_part f k xs) c.fill-self.ensures in
    let m = fed-count f (running c.fill-self.result) (whole_part f k xs) c.blocks-self.ensures in
    let none = none-behind f z k xs p n m in
    (search rules, (last_fits f z k xs p _ none, lt_of_le_of_lt (le_of_eq (last-all f z k xs p n m)) c.requires))

pub returns : goal.returns
returns g c =
    let f = hash_of g.row.S g.H.Blocks.step g.H.Blocks.padding in
    let z = g.met.H.Blocks.sized in
    let sized : length c.args.self.block ≡ g.row.S = search rules in
    fed-three
    f z (running c.args.self) c.args.s.now sized c.if-n-missing.false c.fill-self.ensures c.blocks-self.ensures c.fill-self-2.ensures
