-- `Roll::has` meets its contract. The invariant: the voter is in what is left, or not on the roll, and the looks suffice. Assumes nothing.
use native.Mathlib.Omega.{arith}
use mathlib.Core.Path.{ap, ◌∙◌}
use Rattle.std.proofs.Common.{rules, ◌≡◌, ◌+◌, ◌-◌, ◌/◌, ◌≤◌, ℕ, List, length, drop, Bor}
use lib.ListN.{length-drop}
use lib.Seq.{take_all}
use Rattle.roll.proofs.Search.{left-all, left-none, left-found, left_after, left-before}
use Rattle.roll.proofs.Roll.has.Goals as goal
use Rattle.roll.proofs.Roll.has.Goals.{then-found-voter-2, else-found-voter-2}

pub loop-look-init : goal.loop-look-init
loop-look-init c =
    let chunks = c.as_chunks.ensures in
    (0, left-all c.args.self.now.words.now c.args.voter _ c.args.self.now.good chunks.front chunks.front_len)

pub returns-in_default : goal.returns-in_default
returns-in_default c =
    let (low, r) = c.loop-look.invariant in
    let left = c.loop-look.left.now in
    let few : length left ≤ length left / 2 = search rules in
    left-none r (omega arith) c.args.weight

pub returns-then-found-voter : goal.returns-then-found-voter
returns-then-found-voter c =
    let (low, r) = c.loop-look.invariant in
    let (some, at) = c.in-Some.ensures.lookup.3 in
    left-found r c.in-Some.field-0.now some at c.args.self.now.good c.if-found-voter.true c.args.weight

pub loop-look-preserved : goal.loop-look-preserved
loop-look-preserved c =
    let (low, r) = c.loop-look.invariant in
    let (some, at) = c.in-Some.ensures.lookup.3 in
    let left = c.loop-look.left.now in
    let pair = c.in-Some.field-0.now in
    let good = c.args.self.now.good in
    let turn : 12 - (c.loop-look.look + 1) ≡ 12 - c.loop-look.look - 1 = omega arith in
    elim c.if-found-voter-2.branch [
      | then-found-voter-2 w ↦
          let rest : c.if-found-voter-2.left.now ≡ drop (length left / 2 + 1) left = ap (λ (b : Bor (List (List ℕ))). b.now) w.left-is
          ∙ take_all _ (drop (length left / 2 + 1) left) (simp length-drop (omega arith)) in
          (low + length left / 2 + 1, rw (turn, rest) (left_after r pair some at good w.if-found-voter-2.true))
      | else-found-voter-2 w ↦
          let first = ap (λ (b : Bor (List (List ℕ))). b.now) w.left-is in
          (low, rw (turn, first) (left-before r pair some at good (omega (arith, w.if-found-voter-2.false, c.if-found-voter.false))))
    ]

pub returns : goal.returns
returns c =
    let (low, r) = c.loop-look.invariant in
    let none : 12 - c.loop-look.look ≡ 0 = omega arith in
    left-none r (omega (arith, rw none at r.few)) c.args.weight
