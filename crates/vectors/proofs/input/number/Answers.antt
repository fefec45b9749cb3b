use Rattle.std.proofs.Common.{◌≡◌, sym, ◌∙◌, arith, length}
use Rattle.vectors.proofs.Hexadecimal.{few-digits, more-digits, digit-few, some-here, digits-behind, number-next, number-all}
use Rattle.vectors.proofs.input.number.Goals as goal

pub overflow_mul-value : goal.overflow_mul-value
overflow_mul-value c = omega (arith, few-digits 7 (omega arith) c.loop-c.invariant.0)

pub unwrap-requires : goal.unwrap-requires
unwrap-requires c = rw c.digit.ensures (some-here c.args.text.now c.loop-c.c-index c.loop-c-test.true c.loop-c.invariant.2)

pub overflow_cast-value : goal.overflow_cast-value
overflow_cast-value c =
    omega (arith, digit-few c.args.text.now c.loop-c.c-index c.loop-c-test.true (sym c.digit.ensures ∙ c.unwrap.ensures))

pub overflow_add-value : goal.overflow_add-value
overflow_add-value c =
    let l = c.loop-c in
    omega (
      arith,
      few-digits 7 (omega arith) l.invariant.0,
      digit-few c.args.text.now l.c-index c.loop-c-test.true (sym c.digit.ensures ∙ c.unwrap.ensures),
    )

pub loop-c-preserved : goal.loop-c-preserved
loop-c-preserved c =
    let l = c.loop-c in
    let text = c.args.text.now in
    let here = c.loop-c-test.true in
    let e = sym c.digit.ensures ∙ c.unwrap.ensures in (
      more-digits l.value c.unwrap.result l.c-index l.invariant.0 (digit-few text l.c-index here e),
      number-next text l.c-index here e l.value l.invariant.1,
      digits-behind text l.c-index here l.invariant.2,
    )

pub returns : goal.returns
returns c =
    let l = c.loop-c in
    let all : l.c-index ≡ length c.args.text.now = omega arith in
    (number-all c.args.text.now l.value l.c-index all l.invariant.1, rw all at l.invariant.0)
