-- `after` meets its contract: what is read for a cast's row is what the model says of its vote. Assumes nothing.
use mathlib.Core.Path.{◌∙◌}
use Rattle.std.proofs.Math.Logic.{∥∥₁_map}
use Rattle.index.proofs.Had.{passing-had}
use Rattle.index.proofs.Reading.{known-within}
use Rattle.tally.proofs.Fit.{counted-fit}
use Rattle.tally.proofs.Casts.{session-in, session-words, ballot-in, voter-is, weight_is, ballot-is, after_same, row_fits, after-cast}
use native.Mathlib.Omega.{arith}
use Rattle.tally.proofs.after.Goals as goal

pub invariant_of-passed : goal.invariant_of-passed
invariant_of-passed c = record { kept = ∥∥₁_map c.args.addition.now.passing (λ p. p.kept) }

pub returns-then-known-ne-CAST : goal.returns-then-known-ne-CAST
returns-then-known-ne-CAST c =
    after_same (passing-had c.args.addition.now.passing) c.requires.rows c.requires.tallied c.if-known-ne-CAST.true

pub entry-requires : goal.entry-requires
entry-requires c = let (low, high, typed) = session-in (passing-had c.args.addition.now.passing) c.if-known-ne-CAST.false in (low, high)

pub part-content-requires : goal.part-content-requires
part-content-requires c = (known-within c.entry.ensures).content

pub bounds-content-0 : goal.bounds-content-0
bounds-content-0 c =
    omega (arith, c.part-content.ensures.len, session-words (passing-had c.args.addition.now.passing) c.if-known-ne-CAST.false c.entry.result c.entry.ensures)

pub bounds-content-1 : goal.bounds-content-1
bounds-content-1 c =
    omega (arith, c.part-content.ensures.len, session-words (passing-had c.args.addition.now.passing) c.if-known-ne-CAST.false c.entry.result c.entry.ensures)

pub main_number-ballot-requires : goal.main_number-ballot-requires
main_number-ballot-requires c = ballot-in (passing-had c.args.addition.now.passing) c.if-known-ne-CAST.false

pub without_voter-kept-requires : goal.without_voter-kept-requires
without_voter-kept-requires c =
    let r = c.requires in
    let few = counted-fit (passing-had c.args.addition.now.passing).kept in
    omega (arith, r.rows, r.tallied.room)

pub put_row-requires : goal.put_row-requires
put_row-requires c =
    let r = c.requires in
    let p = passing-had c.args.addition.now.passing in
    let q = c.if-known-ne-CAST.false in
    let w = c.without_voter-kept in
    (row_fits p r.rows r.tallied q _ w.result (voter-is p q c.entry.result c.entry.ensures _ c.part-content.ensures.value) w.new.ballots w.auto.ballots
    (w.ensures _ (record { rows = r.tallied.rows; number = r.rows }))).1

pub overflow_add-result : goal.overflow_add-result
overflow_add-result c =
    let r = c.requires in
    let p = passing-had c.args.addition.now.passing in
    let q = c.if-known-ne-CAST.false in
    let w = c.without_voter-kept in
    let fits = row_fits p r.rows r.tallied q _ w.result (voter-is p q c.entry.result c.entry.ensures _ c.part-content.ensures.value) w.new.ballots w.auto.ballots
    (w.ensures _ (record { rows = r.tallied.rows; number = r.rows })) in
    omega (arith, fits.0)

pub returns : goal.returns
returns c =
    let r = c.requires in
    let p = passing-had c.args.addition.now.passing in
    let q = c.if-known-ne-CAST.false in
    let w = c.without_voter-kept in
    let number = c.main_number-ballot.ensures in
    after-cast p r.rows r.tallied q _ w.result (voter-is p q c.entry.result c.entry.ensures _ c.part-content.ensures.value) w.new.ballots w.auto.ballots
    (w.ensures _ (record { rows = r.tallied.rows; number = r.rows })) _ _ c.put_row.new.ballots
    (number ∙ ballot-is p q) (weight_is p q c.entry.result c.entry.ensures _ c.part-content.ensures.value) c.put_row.ensures
