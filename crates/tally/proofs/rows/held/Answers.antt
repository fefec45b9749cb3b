-- `held` meets its contract. Assumes nothing.
use Rattle.tally.proofs.Table.{rows-are}
use Rattle.tally.proofs.rows.held.Goals as goal

pub returns-clause-votes : goal.returns-clause-votes
returns-clause-votes c xs t = rows-are t c.requires c.as_chunks.ensures.front
