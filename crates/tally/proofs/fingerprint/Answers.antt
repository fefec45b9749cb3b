-- `fingerprint` meets its contract. The loop's invariant: the hash was fed the contents of the counted ballots before the row's.
-- Assumes nothing.
use mathlib.Core.Path.{◌≡◌, ◌∙◌}
use Rattle.model.specs.Counted.{contents}
use Rattle.sha256.proofs.Feed.{fed-count}
use Rattle.sha256.proofs.Holds.{fresh-count, holds-new, digest-held}
use Rattle.state.proofs.Had.{kept-held, stands-held}
use Rattle.index.proofs.Reading.{known-within}
use Rattle.tally.proofs.Fit.{holds_rows, rows_few, rows_fit}
use Rattle.tally.proofs.Message.{content-few, item_in, message-more, message-all}
use native.Mathlib.Omega.{arith}
use Rattle.tally.proofs.fingerprint.Goals as goal

pub held-row-items-requires : goal.held-row-items-requires
held-row-items-requires c =
    let r = c.args.progress.now.reached in
    rows_fit (kept-held r) (stands-held r) c.requires

pub loop-row-init : goal.loop-row-init
unfolding contents
loop-row-init c = (omega (arith, fresh-count c.new-hash.ensures), holds-new c.new-hash.ensures)

pub entry-requires : goal.entry-requires
entry-requires c =
    let r = c.args.progress.now.reached in
    let passed = c.passed-passed.ensures in
    let rows = c.held-row-items in
    item_in (kept-held r) (stands-held r) c.requires c.loop-row.row-index (omega arith)
    rows.result.now (rows.ensures.votes _ (holds_rows (stands-held r) c.requires))
    c.main_entry-ballot.result (rw (passed.board, passed.count) at c.main_entry-ballot.ensures)

pub part-requires : goal.part-requires
part-requires c = (known-within c.entry.ensures).content

pub words-hash-requires : goal.words-hash-requires
words-hash-requires c =
    let r = c.args.progress.now.reached in
    let few = rows_few (kept-held r) (stands-held r) in
    rw c.part.ensures.value (omega (arith, content-few c.entry.ensures))

pub loop-row-preserved : goal.loop-row-preserved
loop-row-preserved c =
    let r = c.args.progress.now.reached in
    let passed = c.passed-passed.ensures in
    let rows = c.held-row-items in
    let l = c.loop-row in
    let e = c.entry in
    let size = content-few e.ensures in
    let next = rw c.part.ensures.value at c.words-hash.ensures in (
      omega (arith, fed-count l.hash _ next, l.invariant.0),
      message-more (kept-held r) (stands-held r) c.requires l.row-index (omega arith)
          rows.result.now (rows.ensures.votes _ (holds_rows (stands-held r) c.requires))
          c.main_entry-ballot.result (rw (passed.board, passed.count) at c.main_entry-ballot.ensures)
          e.result e.ensures l.hash c.words-hash.result next l.invariant.1,
    )

pub finish-requires : goal.finish-requires
finish-requires c =
    let r = c.args.progress.now.reached in
    let few = rows_few (kept-held r) (stands-held r) in
    let l = c.loop-row.invariant in
    omega arith

pub returns : goal.returns
returns c =
    let r = c.args.progress.now.reached in
    let l = c.loop-row in
    let end : l.row-index ≡ c.args.progress.now.state.ballots = omega arith in
    c.finish.ensures ∙ digest-held l.invariant.1 ∙ rw (message-all (kept-held r) (stands-held r) c.requires l.row-index end)
