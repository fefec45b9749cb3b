use Rattle.std.proofs.Common.{◌∙◌, sym, refl, ap, ◌+◌, ◌-◌, ◌&&◌, ℕ, arith, length, take, drop, ltb, lt-ltb, le-ltb}
use Rattle.vectors.specs.Input.{is_input}
use Rattle.vectors.specs.Reading.{hash_of}
use Rattle.vectors.proofs.Reading.{place_or_end, read_next, read_none, read_all, no-ok, index-few}
use Rattle.std.proofs.Common.{length-take-le, length-drop}
use Rattle.vectors.proofs.input.show_lines.Goals as goal

pub loop-from-init : goal.loop-from-init
unfolding hash_of
loop-from-init g c = (omega arith, (0, refl, refl))

pub returns-in_err-hash : goal.returns-in_err-hash
unfolding is_input
returns-in_err-hash g c =
    let l = c.loop-from in
    let text = c.args.text.now in
    let (bits, stands, all) = l.invariant.1 in
    let left = take (length text - l.from) (drop l.from text) in
    let end = place_or_end 10 left c.find.ensures c.unwrap_or.ensures in
    no-ok c.from_residual.result c.from_residual.ensures.0
    ∙ ap (◌&& ltb (length text) 0x10000)
    (read_none
    text bits l.from (l.from + c.unwrap_or.result) c.loop-from-test.true (ap (λ (n : ℕ). l.from + n) end) (c.next.ensures bits stands)
    all c.in_err-hash.was)

pub loop-from-preserved : goal.loop-from-preserved
loop-from-preserved g c =
    let l = c.loop-from in
    let text = c.args.text.now in
    let (bits, stands, all) = l.invariant.1 in
    let left = take (length text - l.from) (drop l.from text) in
    let end = place_or_end 10 left c.find.ensures c.unwrap_or.ensures in (
      omega (arith, end, index-few 10 left, length-take-le (length text - l.from) (drop l.from text) (omega (arith, length-drop l.from text))),
      read_next
          text bits l.from (l.from + c.unwrap_or.result) c.loop-from-test.true (ap (λ (n : ℕ). l.from + n) end) (c.next.ensures bits stands)
          all c.in_ok-hash.was,
    )

pub returns-then-text-lt65536 : goal.returns-then-text-lt65536
unfolding is_input
returns-then-text-lt65536 g c =
    let l = c.loop-from in
    let text = c.args.text.now in
    let (bits, stands, all) = l.invariant.1 in
    sym (lt-ltb (length text) 0x10000 c.if-text-lt65536.true) ∙ ap (◌&& ltb (length text) 0x10000) (read_all text bits l.from c.loop-from-test.false all)

pub returns-else-text-lt65536 : goal.returns-else-text-lt65536
unfolding is_input
returns-else-text-lt65536 g c =
    let l = c.loop-from in
    let text = c.args.text.now in
    let (bits, stands, all) = l.invariant.1 in
    sym (le-ltb (length text) 0x10000 c.if-text-lt65536.false) ∙ ap (◌&& ltb (length text) 0x10000) (read_all text bits l.from c.loop-from-test.false all)
