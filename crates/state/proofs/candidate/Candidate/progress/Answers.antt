-- `Candidate::progress` meets its contract: the index table and the state are those of the items that passed. Assumes nothing.
use Rattle.std.proofs.Math.Logic.{∥∥₁_map}
use Rattle.state.proofs.candidate.Candidate.progress.Goals as goal

pub invariant_of-result : goal.invariant_of-result
invariant_of-result c = record { reached = ∥∥₁_map c.args.self.now.at_item (λ a. (a.kept, a.stands)) }
