-- `is_within` meets its contract: each word is tested with the other set's. Assumes nothing.
use Prim.Native.Nat.{ℕ, ◌-◌, ◌^◌}
use native.Mathlib.Omega.{arith}
use mathlib.Core.Path.{◌∙◌}
use lib.Bits.{bit_and}
use lib.Dec.{eqb}
use Rattle.std.proofs.Common.{rules, tests}
use Rattle.std.proofs.lemmas.Iterator.{YieldsList-from_slice, YieldsList-from_zip}
use Rattle.std.proofs.lemmas.Iterator.Search.{all_from_yields_List}
use Rattle.sets.proofs.Sets.{within-all}
use Rattle.sets.proofs.is_within.Goals as goal

pub returns : goal.returns
returns c =
    let s = c.args.set.now in
    let t = c.args.other.now in
    all_from_yields_List (λ (p : ℕ × ℕ). eqb (bit_and p.0 ((2 ^ 32 - 1) - p.1)) 0) c.all.new.self _ _ c.all.ensures.ran
    (YieldsList-from_zip (YieldsList-from_slice s cc) (YieldsList-from_slice t cc)) (λ x b q k. search (rules, tests))
    ∙ within-all s t (λ k. omega (arith, c.type_inv.set k)) (λ k. omega (arith, c.type_inv.other k)) c.requires
