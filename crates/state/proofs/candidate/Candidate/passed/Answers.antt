-- `Candidate::passed` meets its contract: the index table has the rows of the items that passed. Assumes nothing.
use Rattle.std.proofs.Math.Logic.{∥∥₁_map}
use Rattle.state.proofs.candidate.Candidate.passed.Goals as goal

pub invariant_of-result : goal.invariant_of-result
invariant_of-result c = record { kept = ∥∥₁_map c.args.self.now.at_item (λ a. a.kept) }
