-- `message::compress_blocks` meets its contract.
use Rattle.std.proofs.Common.{rules, ℕ, length, ◌<◌, sym, ap, ◌∙◌, subst}
use Rattle.sha2_common.specs.Sizes.{IsSize}
use Rattle.sha2_common.specs.Blocks.{by_rounds, hash_over}
use Rattle.sha2_common.proofs.Blocks.{hash_over-few, hash_over-next}
use Rattle.sha2_common.proofs.Schedule.{length-schedule}
use Rattle.sha2_common.proofs.message.compress_blocks.Goals as goal

pub loop-m-init : goal.loop-m-init
loop-m-init g c =
    let i = c.into_iter-m-iterator.ensures.into_iter_gives in
    let n = c.chunks_exact-m-items.ensures.size in
    let r = c.chunks_exact-m-items.ensures.rest in
    (c.requires.1, cc, ap (hash_over (by_rounds g.F.Functions.functions g.row.N) c.args.h) cc)

pub compress-r-requires : goal.compress-r-requires
compress-r-requires g c =
    let i = c.loop-m.invariant in
    let n = c.in-Some.ensures.steps.1.1 ∙ i.1 ∙ sym c.requires.4 in
    (search rules, (search rules, (c.requires.0, n, i.0, c.requires.2, c.requires.3)))

pub loop-m-preserved : goal.loop-m-preserved
loop-m-preserved g c =
    let f = by_rounds g.F.Functions.functions g.row.N in
    let i = c.loop-m.invariant in
    let e = c.in-Some.ensures.steps in
    let rest = c.next.new.self.rest.now in
    let z = subst IsSize (sym c.requires.4) c.requires.5 in (
      ap length c.compress-r.ensures.room ∙ length-schedule g.F.Functions.functions _ g.row.N,
      e.0 ∙ i.1,
      hash_over-next f z c.loop-m.r c.in-Some.m.now rest e.1.0 (e.1.1 ∙ i.1 ∙ sym c.requires.4) c.compress-r.ensures.value ∙ i.2,
    )

pub returns : goal.returns
returns g c =
    let f = by_rounds g.F.Functions.functions g.row.N in
    let i = c.loop-m.invariant in
    let rest = c.loop-m.m-iterator.rest.now in
    let few = subst (λ (n : ℕ). length rest < n) (i.1 ∙ sym c.requires.4) c.in-None.ensures.steps.1.0 in
    sym (hash_over-few f (subst IsSize (sym c.requires.4) c.requires.5) c.loop-m.r rest few) ∙ i.2
