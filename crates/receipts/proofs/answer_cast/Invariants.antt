use Prim.Native.Nat.{◌%◌, ◌≤◌}
use mathlib.Core.Path.{◌≡◌}
use lib.ListN.{get_or}
use Rattle.model.specs.Receipts.{receipt_count}
use Rattle.chains.specs.Chain.{buckets, last_in}
use Rattle.format.specs.Format.{format_of}
use Rattle.lookup.specs.Search.{entry_from}
use Rattle.receipts.specs.Answering.{by_receipt}
use Rattle.receipts.proofs.Renewed.{Renewed}
use Rattle.receipts.proofs.Casts.{new_answer}
use Rattle.receipts.proofs.answer_cast.Given as goal

abbrev pub invariant-loop-k : goal.invariant-loop-k
invariant-loop-k l =
    let board = l.linked.asked.passed.board.now in
    let receipts = l.linked.asked.receipts.now in
    (l.k ≤ receipt_count (format_of board) receipts)
    × (last_in (by_receipt board receipts) (get_or board l.e.item.address 0 % buckets) l.k ≡ l.k)
    × Renewed (new_answer board receipts (entry_from board l.e) l.number l.initial.answers) l.initial.answers l.k l.answers

abbrev pub decreases-loop-k : goal.decreases-loop-k
decreases-loop-k l = l.k
