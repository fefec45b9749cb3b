-- `Head::of` meets its contract. Assumes nothing.
use Rattle.model.specs.Words.{kind_of, code_of, count_of}
use borrow.Author.Rules.{rules}
use Rattle.format.proofs.head.Head.of.Goals as goal

pub returns : goal.returns
unfolding kind_of code_of count_of
returns c = search rules
