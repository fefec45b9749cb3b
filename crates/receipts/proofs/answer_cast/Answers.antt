-- `answer_cast` meets its contract. The loop's invariant: the present receipt is the last of the bucket up to itself, the answers of those
-- behind it are new, and those of the others as they were. Assumes nothing.
use Prim.Native.Nat.{◌≤◌, ◌<◌}
use native.Mathlib.Nat.{le_trans}
use native.Mathlib.Omega.{arith}
use lib.ListN.{length}
use Rattle.format.proofs.Traits.{sizes}
use Rattle.index.proofs.Reading.{known-within}
use Rattle.lookup.specs.Search.{entry_from}
use Rattle.lookup.proofs.Buckets.{address-small, chain-words}
use Rattle.lookup.proofs.Walk.{walk-starts, walk-goes}
use Rattle.receipts.proofs.Places.{few-enough}
use Rattle.receipts.proofs.Buckets.{by_receipt-small}
use Rattle.receipts.proofs.Renewed.{Renewed}
use Rattle.receipts.proofs.Casts.{new_answer, cast-begins, cast-answered, cast-other, cast-own, cast_ends}
use borrow.Author.Rules.{rules}
use Rattle.receipts.proofs.answer_cast.Goals as goal
use Rattle.receipts.proofs.answer_cast.Goals.{then-answers-k+then-is_receipt, else-answers-k, else-answers-k-via-then-answers-k+else-is_receipt, else-answers-k-via-else-answers-k}

-- its address has a first word
pub offset_bounds-board-e : goal.offset_bounds-board-e
offset_bounds-board-e c =
    let b = sizes c.args.linked.now.asked.passed.board.now in
    let address = (known-within c.requires.known.0).address in
    let inside : c.args.e.item.address < length c.args.linked.now.asked.passed.board.now = omega (arith, address) in
    search (rules, inside)

pub bounds-board-e : goal.bounds-board-e
bounds-board-e c = let b = sizes c.args.linked.now.asked.passed.board.now in omega (arith, (known-within c.requires.known.0).address)

pub last-k-requires : goal.last-k-requires
last-k-requires c = (chain-words _ _ c.args.linked.now.chained, omega (arith, c.of_address.ensures))

-- there are no more receipts than a chain table takes, nor than there are answers
pub loop-k-init : goal.loop-k-init
loop-k-init c =
    let way = walk-starts (by_receipt-small _ _) (few-enough c.args.linked.now.asked.whole) c.args.linked.now.chained (address-small _) c.of_address.ensures c.last-k.ensures in
    (way.most, way.self, cast-begins c.requires.known.0 c.requires.known.1 _ _ _ way)

pub behind-k-requires : goal.behind-k-requires
behind-k-requires c = (chain-words _ _ c.args.linked.now.chained, le_trans c.loop-k.invariant.0 (few-enough c.args.linked.now.asked.whole))

-- the receipt behind it
pub loop-k-smaller : goal.loop-k-smaller
loop-k-smaller c =
    let one : 1 ≤ c.loop-k.k = omega arith in
    let way = walk-goes (by_receipt-small _ _) (few-enough c.args.linked.now.asked.whole) c.args.linked.now.chained c.loop-k.k one c.loop-k.invariant.0 c.loop-k.invariant.1 c.behind-k.ensures in
    omega (arith, way.most)

pub loop-k-preserved : goal.loop-k-preserved
loop-k-preserved c =
    let is = c.requires.known.0 in
    let cast = c.requires.known.1 in
    let k = c.loop-k.k in
    let one : 1 ≤ c.loop-k.k = omega arith in
    let (within, self, w) = c.loop-k.invariant in
    let way = walk-goes (by_receipt-small _ _) (few-enough c.args.linked.now.asked.whole) c.args.linked.now.chained k one within self c.behind-k.ensures in
    let new = new_answer c.args.linked.now.asked.passed.board.now c.args.linked.now.asked.receipts.now (entry_from c.args.linked.now.asked.passed.board.now c.args.e) c.args.number c.args.answers.now in
    let made : Renewed new c.args.answers.now c.behind-k.result c.if-answers-k.answers =
    elim c.if-answers-k.branch [
      | then-answers-k+then-is_receipt y ↦ rw y.answers-is (cast-own is cast _ _ _ k one within w way y.is_receipt.ensures (le_trans within c.requires.room) y.if-answers-k.true y.if-is_receipt.true)
      | else-answers-k z ↦ rw z.answers-is (elim z.else-answers-k.branch [
        | else-answers-k-via-then-answers-k+else-is_receipt y ↦ cast-other is cast _ _ _ k one within w way y.is_receipt.ensures y.if-is_receipt.false
        | else-answers-k-via-else-answers-k y ↦ cast-answered is cast _ _ _ k one within w way y.if-answers-k.false
      ])
    ] in
    (omega (arith, way.most), way.self, made)

pub returns : goal.returns
returns c =
    let l = c.loop-k in
    cast_ends c.requires.known.0 c.requires.known.1 _ _ _ (rw c.loop-k-test.false at l.invariant.2)
