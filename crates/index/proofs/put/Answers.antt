-- `put` meets its contract: its five stores are the row of the item that passes, and it writes what the item closes. Assumes nothing.
use native.Mathlib.Omega.{arith}
use Rattle.index.proofs.Putting.{small, closes-row, length-closed, kept_next}
use lib.ListN.{length-set}
use borrow.Author.Rules.{rules}
use Rattle.index.proofs.put.Goals as goal

-- what is stored fits its words
pub overflow_cast-index : goal.overflow_cast-index
overflow_cast-index c = omega (arith, (small c.requires.0 c.args.mains c.requires.1).place)

pub overflow_cast-index-2 : goal.overflow_cast-index-2
overflow_cast-index-2 c = omega (arith, (small c.requires.0 c.args.mains c.requires.1).parent)

pub bounds-index-row-2 : goal.bounds-index-row-2
bounds-index-row-2 c = simp length-set (omega arith)

pub number_word-requires : goal.number_word-requires
number_word-requires c = (small c.requires.0 c.args.mains c.requires.1).session

pub bounds-index-row-3 : goal.bounds-index-row-3
bounds-index-row-3 c = simp length-set (omega arith)

pub overflow_cast-index-3 : goal.overflow_cast-index-3
overflow_cast-index-3 c = omega (arith, (small c.requires.0 c.args.mains c.requires.1).mains)

pub bounds-index-row-4 : goal.bounds-index-row-4
bounds-index-row-4 c = simp length-set (omega arith)

pub bounds-index-row-5 : goal.bounds-index-row-5
bounds-index-row-5 c = simp length-set (omega arith)

pub put_closer-requires : goal.put_closer-requires
put_closer-requires c =
    let p = c.requires.0 in record {
      count_lt_item_limit = (p.more, simp length-set p.kept.room);
      le_parent = λ t. let (some, few) = closes-row p t in (some, omega (arith, p.more));
    }

pub shape_of-index : goal.shape_of-index
shape_of-index c = search (rules, c.put_closer.ensures, length-closed)

pub returns : goal.returns
returns c = kept_next c.requires.0 _ _ c.number_word.ensures c.requires.1 _ c.put_closer.ensures
