-- `content_ok` meets its contract. Assumes nothing.
use borrow.Author.Rules.{rules}
use Rattle.contents.proofs.Parts.{content-is}
use Rattle.contents.proofs.content_ok.Goals as goal

pub returns-then-voting_ok : goal.returns-then-voting_ok
returns-then-voting_ok c = rw (content-is _ _ _) (search rules)

pub returns-else-voting_ok : goal.returns-else-voting_ok
returns-else-voting_ok c = rw (content-is _ _ _) (search rules)
